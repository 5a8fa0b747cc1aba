use Rattle.std.specs.Prelude.{slice_get, None, Some}
use Rattle.std.proofs.Common.{◌≡◌, ℕ, List, [], get_or, sym, ◌∙◌, true}
use Rattle.l4_model.specs.Words.{AnyThread, is_same}
use Rattle.tcb_arena.specs.Inner.Shown.{waiting_at}
use Rattle.tcb_arena.proofs.Finding.{found-any, found-none, taken-shown}
use Rattle.tcb_arena.proofs.Arena.first_accepted.Goals as goal

pub returns-in-None : goal.returns-in-None
returns-in-None c =
    let f = c.self.inside in
    let ns : List ℕ = get_or f.waiting.lists c.args.receiver [] in
    let none : slice_get ns 0 ≡ None = sym c.first.ensures.first ∙ c.in-None.is in
    taken-shown f.waiting f.senders.items f.ready f.wheel c.args.self.now c.args.receiver c.args.spec.now None c.self.view_is (found-none c.args.spec.now f.senders.items ns 0 none)

pub returns-in-Some : goal.returns-in-Some
returns-in-Some c =
    let f = c.self.inside in
    let ns : List ℕ = get_or f.waiting.lists c.args.receiver [] in
    let here : slice_get ns 0 ≡ Some c.in-Some.block = sym c.first.ensures.first ∙ c.in-Some.is in
    let any : is_same c.args.spec.now AnyThread ≡ true = sym c.is_any.ensures ∙ c.if-is_any.true in
    taken-shown f.waiting f.senders.items f.ready f.wheel c.args.self.now c.args.receiver c.args.spec.now (Some (waiting_at f.senders.items c.in-Some.block)) c.self.view_is
    (found-any c.args.spec.now f.senders.items ns c.in-Some.block any here)
