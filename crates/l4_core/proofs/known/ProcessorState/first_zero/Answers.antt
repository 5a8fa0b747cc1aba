use Rattle.std.proofs.Common.{ℕ, Bool, map, sym, ap, ◌∙◌, rules, tests}
use Rattle.l4_core_model.specs.Plain.{Waiting, list_of}
use Rattle.l4_core_model.specs.Local.{thread}
use Rattle.std.specs.Prelude.{find}
use Rattle.std.proofs.lemmas.Iterator.Adapters.{option_map_id}
use Rattle.std.proofs.lemmas.Iterator.Consumers.{YieldsList-from_first}
use Rattle.std.proofs.lemmas.Iterator.Search.{find_from_yields_List}
use Rattle.l4_core.specs.Inner.Covered.{is_zero_send}
use Rattle.l4_core.specs.Processor.{Processor}
use Rattle.l4_core.proofs.Parting.{find_blocks}
use Rattle.l4_core.proofs.known.ProcessorState.first_zero.Goals as goal

pub returns : goal.returns
returns c =
    let p = c.args.self.now in
    let test : ℕ → Bool = λ b. is_zero_send (thread p.local b).send in
    sym (option_map_id c.find.result)
    ∙ find_from_yields_List (λ b. is_zero_send (thread p.local b).send) _ _ c.find.result c.find.ensures.ran
    (YieldsList-from_first (λ x. x) (λ left. left) _ c.waiting_at.ensures.blocks) (λ x b q k. search (rules, tests))
    ∙ ap (λ (q : Processor). find test (map (λ (w : Waiting). w.block) (list_of q.local.lists c.args.place))) c.self.view_is
    ∙ find_blocks test (list_of p.local.lists c.args.place)
