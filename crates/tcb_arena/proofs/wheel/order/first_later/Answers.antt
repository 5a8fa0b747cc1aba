use Rattle.std.specs.Prelude.{slice_get, Some, drop, find}
use Rattle.std.proofs.Common.{◌≡◌, ℕ, List, [], get_or, add-one, ap, sym, ◌∙◌, rules, tests}
use Rattle.std.proofs.lemmas.Iterator.Adapters.{option_map_id}
use Rattle.std.proofs.lemmas.Iterator.Consumers.{YieldsList-from_first}
use Rattle.std.proofs.lemmas.Iterator.Search.{find_from_yields_List}
use Rattle.tcb_arena.specs.Inner.Due.{is_later}
use Rattle.tcb_arena.proofs.Once.{get-in}
use Rattle.tcb_arena.proofs.Ordered.{later-behind, one-list}
use Rattle.tcb_arena.proofs.wheel.order.first_later.Goals as goal

pub returns-in-Some : goal.returns-in-Some
returns-in-Some c =
    let ds : List ℕ = c.args.deadlines.now.items in
    let d : ℕ = c.args.deadline in
    let ns : List ℕ = get_or c.args.order.now.lists 0 [] in
    let x : ℕ = c.in-Some.start in
    let at : (k : ℕ) × (slice_get ns k ≡ Some x) = get-in x ns (sym (one-list x c.args.order.now.lists c.requires.head) ∙ c.in-Some.ensures.linked) in
    sym (option_map_id c.find.result)
    ∙ find_from_yields_List (is_later ds d) _ _ c.find.result c.find.ensures.ran
    (YieldsList-from_first (λ x. x) (λ left. left) _ (c.behind.ensures.names 0 at.0 at.1)) (λ x b q k. search (rules, tests))
    ∙ ap (λ n. find (is_later ds d) (drop n ns)) (add-one at.0)
    ∙ later-behind ds ns d at.0 x c.requires.rising at.1 c.in-Some.ensures.early

pub returns-in-None : goal.returns-in-None
returns-in-None c =
    sym (option_map_id c.find-in-None.result)
    ∙ find_from_yields_List (is_later c.args.deadlines.now.items c.args.deadline) _ _ c.find-in-None.result c.find-in-None.ensures.ran
    (YieldsList-from_first (λ x. x) (λ left. left) _ c.new.ensures.names) (λ x b q k. search (rules, tests))
