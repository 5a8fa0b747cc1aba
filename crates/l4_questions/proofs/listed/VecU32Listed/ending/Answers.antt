use Rattle.std.proofs.Common.{◌≡◌, ◌++◌, ℕ, List, Global, ap, codes, decimal, length, subst, sym, ◌∙◌, arith}
use Rattle.std.specs.Prelude.{Vec}
use Rattle.l4_model.specs.Machine.{Machine}
use Rattle.l4_model.specs.Steps.{Step}
use Rattle.l4_model.specs.World.{World}
use Rattle.l4_model.specs.History.{IsHistory}
use Rattle.l4_futures.proofs.Led.{IsLed}
use Rattle.l4_futures.specs.Traces.{trace_along}
use Rattle.l4_questions.specs.Answers.{ending_after, ending_in}
use Rattle.l4_questions.specs.Inner.Found.{led_ending}
use Rattle.l4_questions.proofs.StuckThreads.{leads}
use Rattle.l4_questions.proofs.listed.VecU32Listed.ending.Goals as goal

pub new-requires : goal.new-requires
new-requires c =
    let m = c.args.machine.now in
    let l = (leads m c.args.self.now.items c.know_times.ensures c.requires).1 in
    subst (IsHistory m) (sym (c.in_ok-trace.ensures ∙ ap (trace_along m) c.deref.ensures.value))
    (l.world, l.reaches)

-- It has as many steps but ticks as there are entries.
told : (m : Machine) (v : Vec ℕ Global) (w : World) (steps : List Step) (head : List ℕ) →
    IsLed m v.items w → steps ≡ trace_along m v.items →
    head ≡ codes " steps " ++ decimal (length v.items) →
    record (ending_after m steps) { head = head } ≡ led_ending m v
told m v w steps head l same is =
    ap (λ t. record (ending_after m t) { head = head }) same
    ∙ rw l.reaches (ap (λ h. record (ending_in m (trace_along m v.items) l.world) { head = h })
    (is ∙ ap (λ n. codes " steps " ++ decimal n) (sym l.long)))

pub returns : goal.returns
returns c =
    let m = c.args.machine.now in
    let v = c.args.self.now in
    let l = leads m v.items c.know_times.ensures c.requires in
    let head : c.into_bytes.result.items ≡ codes " steps " ++ decimal (length v.items)
    = ap (λ (b : Vec ℕ Global). b.items) c.into_bytes.ensures.value ∙ c.in_ok-write.ensures.bytes
    ∙ ap (λ b. b ++ (codes " steps " ++ decimal c.len.result)) c.new-head.ensures.bytes
    ∙ ap (λ n. codes " steps " ++ decimal n) counted in
    c.in_ok-found.ensures
    ∙ told m v l.0 c.in_ok-trace.trace.steps c.into_bytes.result.items l.1
    (c.in_ok-trace.ensures ∙ ap (trace_along m) c.deref.ensures.value) head
  where
    counted : c.len.result ≡ length c.args.self.now.items
    counted = omega (arith, c.len.ensures, c.args.self.now.ok.0)
