use Rattle.std.specs.Prelude.{slice_get, Some, None}
use Rattle.std.proofs.Common.{◌≡◌, ◌<◌, ℕ, true, false, List, [], length, get_or, ap, ◌∙◌, sym, arith}
use Rattle.std.proofs.lemmas.List.{get_or_read}
use Rattle.l4_model.specs.Rules.{takes}
use Rattle.tcb_arena.specs.declared.Sender.{Sender}
use Rattle.tcb_arena.specs.Inner.Shown.{no_sender, sender_at, waiting_at}
use Rattle.tcb_arena.proofs.Finding.{accepts, found-here, found-later, found-none, taken-shown}
use Rattle.tcb_arena.proofs.Arena.first_accepted_among.Goals as goal

pub returns-in_err-block : goal.returns-in_err-block
returns-in_err-block c =
    let f = c.self.inside in
    let ns : List ℕ = get_or f.waiting.lists c.args.receiver [] in
    let none : slice_get ns c.loop-place._place ≡ None = sym c.loop-place.invariant.next_is ∙ c.in_err-block.was in
    c.from_residual.ensures ∙ taken-shown f.waiting f.senders.items f.ready f.wheel c.args.self.now c.args.receiver c.args.spec.now None c.self.view_is
    (c.loop-place.invariant.not_before ∙ found-none c.args.spec.now f.senders.items ns c.loop-place._place none)

pub returns-then-takes : goal.returns-then-takes
returns-then-takes c =
    let f = c.self.inside in
    let block = c.in_ok-block.block in
    let ns : List ℕ = get_or f.waiting.lists c.args.receiver [] in
    let here : slice_get ns c.loop-place._place ≡ Some block = sym c.loop-place.invariant.next_is ∙ c.in_ok-block.was in
    let lx : block < length f.senders.items = omega (arith, c.loop-place.invariant.sound.below c.args.receiver c.loop-place._place block here, c.self.invariant.names) in
    let sender : c.index-sender.result.now ≡ sender_at f.senders.items block = get_or_read f.senders.items block c.index-sender.result.now lx c.index-sender.ensures no_sender in
    let yes : accepts c.args.spec.now (waiting_at f.senders.items block) ≡ true =
    ap (λ (e : Sender). takes c.args.spec.now e.shown e.local) (sym sender) ∙ sym c.takes.ensures ∙ c.if-takes.true in
    taken-shown f.waiting f.senders.items f.ready f.wheel c.args.self.now c.args.receiver c.args.spec.now (Some (waiting_at f.senders.items block)) c.self.view_is
    (c.loop-place.invariant.not_before ∙ found-here c.args.spec.now f.senders.items ns c.loop-place._place block here yes)

pub loop-place-preserved : goal.loop-place-preserved
loop-place-preserved c =
    let f = c.self.inside in
    let block = c.in_ok-block.block in
    let ns : List ℕ = get_or f.waiting.lists c.args.receiver [] in
    let here : slice_get ns c.loop-place._place ≡ Some block = sym c.loop-place.invariant.next_is ∙ c.in_ok-block.was in
    let lx : block < length f.senders.items = omega (arith, c.loop-place.invariant.sound.below c.args.receiver c.loop-place._place block here, c.self.invariant.names) in
    let sender : c.index-sender.result.now ≡ sender_at f.senders.items block = get_or_read f.senders.items block c.index-sender.result.now lx c.index-sender.ensures no_sender in
    let not_taken : accepts c.args.spec.now (waiting_at f.senders.items block) ≡ false =
    ap (λ (e : Sender). takes c.args.spec.now e.shown e.local) (sym sender) ∙ sym c.takes.ensures ∙ c.if-takes.false in
    record {
      next_is = c.after-next.ensures.after c.args.receiver c.loop-place._place here;
      not_before = c.loop-place.invariant.not_before ∙ found-later c.args.spec.now f.senders.items ns c.loop-place._place block here not_taken;
      sound = c.loop-place.invariant.sound;
    }
