use Rattle.std.proofs.Common.{◌≡◌, Bool, true, false, List, length, ap, refl, subst, sym, ◌∙◌, ⊎_elim}
use Rattle.std.specs.Prelude.{All, IfSome, ◌⊎◌, not, slice_get}
use Rattle.l4_model.specs.Words.{GlobalId, same_id}
use Rattle.l4_model.specs.Machine.{Declaration, Machine, place_of}
use Rattle.l4_model.specs.World.{Name}
use Rattle.l4_model.specs.Rules.{received_tag}
use Rattle.l4_model.proofs.Places.{same_id_is}
use Rattle.l4_core_model.specs.Runs.{IsMachine}
use Rattle.l4_types.specs.declared.step_ref.DeliveryRef.{DeliveryRef}
use Rattle.l4_types.specs.declared.steps.Step.{Step}
use Rattle.l4_types.specs.declared.steps.Step.TheVariants.{Local, Begin, Queue, Deliver, Wait, SendTimeout, ReceiveTimeout, SendNobody, ReceiveNobody, SendCancel, ReceiveCancel, Drop, Order, Obey, Tick, Retarget}
use Rattle.l4_types.specs.Inner.ClockTick.{ClockTick}
use Rattle.l4_types.specs.StepView.{delivered, seen, order_kind_of}
use Rattle.l4_counts.specs.declared.counts.Counts.{Counts}
use Rattle.l4_counts.specs.Inner.Few.{AreFew}
use Rattle.l4_counts.specs.Inner.Threads.{each_with_step, with_step_at}
use Rattle.l4_counts.proofs.Each.{OfNobody, OfOne, OfTwo, counted_none, counted_one, counted_two, few_after, few_at, of_begin, of_delivery, of_local, of_nobody, of_order, of_own_delivery, of_receive_cancel, of_receive_nobody, of_receive_timeout, of_send_cancel, of_send_nobody, of_send_timeout, of_wait}
use Rattle.l4_counts.proofs.threads.count_step.Goals as goal

-- A step that is known by its kind

nobody_as : (step kind : Step DeliveryRef) → step ≡ kind → OfNobody (seen kind) → OfNobody (seen step)
nobody_as step kind is nobody = subst (λ (s : Step DeliveryRef). OfNobody (seen s)) (sym is) nobody

one_as : (t : GlobalId) (step kind : Step DeliveryRef) → step ≡ kind → OfOne t (seen kind) → OfOne t (seen step)
one_as t step kind is one = subst (λ (s : Step DeliveryRef). OfOne t (seen s)) (sym is) one

-- A delivery to another thread, and to its own sender

of_delivered : (d : DeliveryRef) → OfTwo d.name.thread d.receiver (delivered d)
of_delivered d = of_delivery d.name d.receiver d.message.shown d.message.actual (received_tag d.cross d.message) d.message.words

of_own_delivered : (d : DeliveryRef) → d.receiver ≡ d.name.thread → OfOne d.name.thread (delivered d)
of_own_delivered d = of_own_delivery d.name d.receiver d.message.shown d.message.actual (received_tag d.cross d.message) d.message.words

apart : (r b : Bool) → r ≡ not b → r ≡ true → b ≡ false
apart r true e is = cc
apart r false e is = refl

same : (r b : Bool) → r ≡ not b → r ≡ false → b ≡ true
same r true e is = refl
same r false e is = cc

module _ (m : Machine) (step : Step DeliveryRef) (d : DeliveryRef) (sender : GlobalId) (cs first : List Counts) (r : Bool)
    (is : step ≡ Deliver d) (own : sender ≡ d.name.thread) (test : r ≡ not (same_id d.receiver sender)) (long : length cs ≡ length m.threads)
    (counted : first ≡ with_step_at (place_of m sender) sender (seen step) cs) where
  few_then : r ≡ true → All AreFew cs → IfSome (place_of m d.receiver) (λ place. IfSome (slice_get first place) AreFew)
  few_then other few =
      subst (λ (xs : List Counts). IfSome (place_of m d.receiver) (λ place. IfSome (slice_get xs place) AreFew)) (sym counted)
      (few_after m sender d.receiver (seen step) cs long few (apart r _ test other))

  to_another : (now : List Counts) → IsMachine m → r ≡ true → now ≡ with_step_at (place_of m d.receiver) d.receiver (seen step) first →
      now ≡ each_with_step (seen step) m.threads cs
  to_another now lawful other then =
      let two : OfTwo sender d.receiver (seen step) =
      subst (λ (t : GlobalId). OfTwo t d.receiver (seen step)) (sym own)
      (subst (λ (s : Step DeliveryRef). OfTwo d.name.thread d.receiver (seen s)) (sym is) (of_delivered d)) in
      then ∙ ap (with_step_at (place_of m d.receiver) d.receiver (seen step)) counted
      ∙ counted_two m lawful sender d.receiver (seen step) cs two (apart r _ test other) long

  to_itself : IsMachine m → r ≡ false → first ≡ each_with_step (seen step) m.threads cs
  to_itself lawful itself =
      let received : d.receiver ≡ d.name.thread = same_id_is d.receiver sender (same r _ test itself) ∙ own in
      let one : OfOne sender (seen step) =
      subst (λ (t : GlobalId). OfOne t (seen step)) (sym own)
      (one_as d.name.thread step (Deliver d) is (of_own_delivered d received)) in
      counted ∙ counted_one m lawful sender (seen step) cs one long

pub count_at-requires-then-ne-clause-few : goal.count_at-requires-then-ne-clause-few
count_at-requires-then-ne-clause-few c =
    few_then c.args.machine.now c.args.step.now c.in-Deliver.delivery c.thread-sender.result c.args.counts.now c.count_at.new.counts c.ne.result
    c.in-Deliver.is c.thread-sender.ensures c.ne.ensures c.requires.each c.count_at.ensures c.if-ne.true c.requires.few

pub returns-then-ne : goal.returns-then-ne
returns-then-ne c =
    to_another c.args.machine.now c.args.step.now c.in-Deliver.delivery c.thread-sender.result c.args.counts.now c.count_at.new.counts c.ne.result
    c.in-Deliver.is c.thread-sender.ensures c.ne.ensures c.requires.each c.count_at.ensures c.count_at-then-ne.new.counts c.requires.lawful c.if-ne.true c.count_at-then-ne.ensures

pub returns-else-ne : goal.returns-else-ne
returns-else-ne c =
    to_itself c.args.machine.now c.args.step.now c.in-Deliver.delivery c.thread-sender.result c.args.counts.now c.count_at.new.counts c.ne.result
    c.in-Deliver.is c.thread-sender.ensures c.ne.ensures c.requires.each c.count_at.ensures c.requires.lawful c.if-ne.false

-- Steps of one thread

pub count_at-requires-in-Begin-clause-few : goal.count_at-requires-in-Begin-clause-few
count_at-requires-in-Begin-clause-few c = few_at c.args.machine.now c.thread.result c.args.counts.now c.requires.each c.requires.few

pub count_at-requires-in-Local-clause-few : goal.count_at-requires-in-Local-clause-few
count_at-requires-in-Local-clause-few c = few_at c.args.machine.now c.in-Local.thread c.args.counts.now c.requires.each c.requires.few

pub returns-in-Begin : goal.returns-in-Begin
returns-in-Begin c =
    let s = c.in-Begin.name in
    let step = c.args.step.now in
    let one : OfOne s.thread (seen step) =
    ⊎_elim (λ e. one_as s.thread step (Begin s) e (of_begin s))
    (⊎_elim (λ e. one_as s.thread step (SendTimeout s) e (of_send_timeout s))
    (⊎_elim (λ e. one_as s.thread step (SendNobody s) e (of_send_nobody s))
    (λ e. one_as s.thread step (SendCancel s) e (of_send_cancel s)))) c.in-Begin.is in
    let own : OfOne c.thread.result (seen step) = subst (λ (t : GlobalId). OfOne t (seen step)) (sym c.thread.ensures) one in
    c.count_at-in-Begin.ensures ∙ counted_one c.args.machine.now c.requires.lawful c.thread.result (seen step) c.args.counts.now own c.requires.each

pub returns-in-Local : goal.returns-in-Local
returns-in-Local c =
    let t = c.in-Local.thread in
    let step = c.args.step.now in
    let one : OfOne t (seen step) =
    ⊎_elim (λ e. one_as t step (Local t) e (of_local t))
    (⊎_elim (λ e. one_as t step (Wait t) e (of_wait t))
    (⊎_elim (λ e. one_as t step (ReceiveTimeout t) e (of_receive_timeout t))
    (⊎_elim (λ e. one_as t step (ReceiveNobody t) e (of_receive_nobody t))
    (⊎_elim (λ e. one_as t step (ReceiveCancel t) e (of_receive_cancel t))
    (λ e. one_as t step (Order t e.0 e.1) e.2 (of_order t e.0 (order_kind_of e.1))))))) c.in-Local.is in
    c.count_at-in-Local.ensures ∙ counted_one c.args.machine.now c.requires.lawful t (seen step) c.args.counts.now one c.requires.each

-- Steps of nobody

left : (ds : List Declaration) (step : Step DeliveryRef) (cs : List Counts) → length cs ≡ length ds →
    ((s : Name) × (step ≡ Queue s)) ⊎ (((s : Name) × (step ≡ Drop s)) ⊎ (((t : GlobalId) × (step ≡ Obey t)) ⊎ (((t : ClockTick) × (step ≡ Tick t)) ⊎ ((s : Name) × (step ≡ Retarget s))))) →
    cs ≡ each_with_step (seen step) ds cs
left ds step cs long kind =
    let nobody : OfNobody (seen step) =
    ⊎_elim (λ e. nobody_as step (Queue e.0) e.1 of_nobody)
    (⊎_elim (λ e. nobody_as step (Drop e.0) e.1 of_nobody)
    (⊎_elim (λ e. nobody_as step (Obey e.0) e.1 of_nobody)
    (⊎_elim (λ e. nobody_as step (Tick e.0) e.1 of_nobody)
    (λ e. nobody_as step (Retarget e.0) e.1 of_nobody)))) kind in
    counted_none ds (seen step) cs nobody long

pub returns-in-Queue : goal.returns-in-Queue
returns-in-Queue c = left c.args.machine.now.threads c.args.step.now c.args.counts.now c.requires.each c.in-Queue.is

pub returns-in-Queue-2 : goal.returns-in-Queue-2
returns-in-Queue-2 c = left c.args.machine.now.threads c.args.step.now c.args.counts.now c.requires.each c.in-Queue.is

pub returns-in-Queue-3 : goal.returns-in-Queue-3
returns-in-Queue-3 c = left c.args.machine.now.threads c.args.step.now c.args.counts.now c.requires.each c.in-Queue.is

pub returns-in-Queue-4 : goal.returns-in-Queue-4
returns-in-Queue-4 c = left c.args.machine.now.threads c.args.step.now c.args.counts.now c.requires.each c.in-Queue.is

pub returns-in-Queue-5 : goal.returns-in-Queue-5
returns-in-Queue-5 c = left c.args.machine.now.threads c.args.step.now c.args.counts.now c.requires.each c.in-Queue.is
