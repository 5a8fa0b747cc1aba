use Rattle.std.proofs.Common.{◌≡◌, ap, arith, drop, length, map, suc, sym, [], ◌+◌, ◌++◌, ◌∙◌, ◌∷◌}
use Rattle.std.specs.Prelude.{slice_get}
use Rattle.l4_model.specs.Machine.{Machine}
use Rattle.l4_model.specs.World.{Thread}
use Rattle.l4_forever.specs.Waits.{wait_in, wait_of, waits_in}
use Rattle.l4_outlooks.specs.Inner.Foreseen.{Foreseen}
use Rattle.l4_outlooks.proofs.Looking.{waits_on}
use Rattle.l4_outlooks.proofs.outlook.Outlook.waits.Goals as goal

pub loop-place-preserved : goal.loop-place-preserved
loop-place-preserved c =
    let l = c.loop-place in
    let ts = c.args.self.now.world.threads in
    let up : suc l.place ≡ l.place + 1 = omega arith in
    ap (λ xs. xs ++ map (λ (t : Thread). wait_in t.phase) (drop (l.place + 1) ts))
    (c.in_ok-push.ensures.items ∙ ap (λ x. l.waits.items ++ x ∷ []) c.wait_at.ensures)
    ∙ ap (λ k. (l.waits.items ++ wait_of (slice_get ts l.place) ∷ [])
    ++ map (λ (t : Thread). wait_in t.phase) (drop k ts)) (sym up)
    ∙ waits_on ts l.place l.waits.items (waits_in c.args.self.now.world)
    (omega (arith, c.loop-place-test.true, c.facts.ensures.threads, ap (λ (m : Machine). length m.threads) c.machine.ensures, ap length c.threads-place-end.ensures.value, ap (λ (o : Foreseen). length o.world.threads) c.self.view_is)) l.invariant
