-- An ipc begins.
use Rattle.std.proofs.Common.{◌≡◌, ℕ, ◌<◌, Bool, true, false, cond, is_some, Option, Some, None, length, refl, ap, sym, ◌∙◌, subst, arith}
use Rattle.l4_model.specs.Words.{GlobalId, Id, NilThread, AnyThread, AnyLocalThread, LocalThread, GlobalThread}
use Rattle.l4_model.specs.Machine.{Machine, Instr, Run, Ipc, Ask, End}
use Rattle.l4_model.specs.World.{Context, Receive, Send, Thread, opening_thread}
use Rattle.l4_model.specs.Rules.{Act, RunsAlone, Sends, Receives, Orders, act, ask_act, id_from, ipc_act, is_admitted, receive_phase, request}
use Rattle.l4_model.specs.Conditions.{act_of, instruction}
use Rattle.l4_model.specs.Effects.{begins}
use Rattle.l4_model.specs.Steps as steps
use Rattle.l4_core_model.specs.Plain as plain
use Rattle.l4_core_model.specs.Local.{Local, comes_to, declared, destination_place, held, last_name, thread}
use Rattle.l4_core_model.specs.Acts.{acts, send_goes_to, tells}
use Rattle.l4_core_model.proofs.Changed.{get-changed}
use Rattle.l4_thread.specs.declared.phases.Began.TheVariants.{Send as BeganSend}
use Rattle.l4_thread.specs.Inner.Ipcs.{began_of}
use Rattle.l4_core.specs.Inner.FastPath.{partner_of}
use Rattle.l4_core.specs.Inner.Parts.{AreCore}
use Rattle.l4_core.specs.Processor.{Processor, with_local}
use Rattle.l4_core.specs.EventBuffers.{EventBuffer, with_step}
use Rattle.l4_core.specs.Inner.Turning.{work, Does, IsAtHand, IsNewSender, begun_by}
use Rattle.l4_core.proofs.Fitting.{unqueued, ready_not_sends}

sends_of : (a : Act) → BeganSend ≡ began_of a → (send : Send) × (a ≡ Sends send)
sends_of (Sends send) e = (send, refl)
sends_of (Receives receive) e = cc
sends_of RunsAlone e = cc
sends_of (Orders order) e = cc

begun_at : (p q : Processor) (i : ℕ) (a : Act) (send : Send) → a ≡ Sends send → q ≡ with_local p (begun_by a i p.local) → q ≡ with_local p (comes_to i (begins send) p.local)
begun_at p q i a send e is = is ∙ ap (λ (b : Act). with_local p (begun_by b i p.local)) e

-- The thread that began a send.
begun_thread : (p q : Processor) (i : ℕ) (send : Send) → AreCore p → i < length p.machine.threads → q ≡ with_local p (comes_to i (begins send) p.local) → thread q.local i ≡ begins send (thread p.local i)
begun_thread p q i send core lt is = ap (λ (x : Processor). thread x.local i) is ∙ get-changed (begins send) p.local.threads i opening_thread (omega (arith, core.settled.threads))

pub new_sender : (p q : Processor) (i : ℕ) (a : Act) → AreCore p → IsAtHand p i → q ≡ with_local p (begun_by a i p.local) → BeganSend ≡ began_of a → IsNewSender q i
new_sender p q i a core hand is began =
    let s = sends_of a began in
    let at = begun_at p q i a s.0 s.1 is in
    let now = begun_thread p q i s.0 core hand.own.within at in
    record {
      sender = record { within = subst (λ (x : Processor). i < length x.machine.threads) (sym at) hand.own.within; sends = ap (λ (t : Thread). is_some t.send) now };
      unqueued = ap (λ (x : Processor). plain.is_queued x.local.lists i) at ∙ unqueued p.machine p.cpu p.local i core.settled hand.own.own (ready_not_sends _ hand.ready);
    }

-- Where a send goes that an instruction begins.
pub goes_to_partner : (m : Machine) (t : GlobalId) (now : ℕ) (c : Context) (instr : Instr) (send : Send) → act m t now c instr ≡ Sends send → partner_of m c instr ≡ destination_place m send.to
goes_to_partner m t now c (Ipc to from send_period receive_period) send e = by (id_from c to) (receive_phase (id_from c from) receive_period) e
  where
    by : (id : Id) (receive : Option Receive) → ipc_act m t now c id send_period receive ≡ Sends send → destination_place m id ≡ destination_place m send.to
    by NilThread None e = cc
    by NilThread (Some receive) e = cc
    by AnyThread receive e = let same : request m t now c AnyThread send_period receive ≡ send = cc in ap (λ (s : Send). destination_place m s.to) same
    by AnyLocalThread receive e = let same : request m t now c AnyLocalThread send_period receive ≡ send = cc in ap (λ (s : Send). destination_place m s.to) same
    by (LocalThread word) receive e = let same : request m t now c (LocalThread word) send_period receive ≡ send = cc in ap (λ (s : Send). destination_place m s.to) same
    by (GlobalThread id) receive e = let same : request m t now c (GlobalThread id) send_period receive ≡ send = cc in ap (λ (s : Send). destination_place m s.to) same
goes_to_partner m t now c (Ask target what) send e = by (id_from c target) e
  where
    asks : (target : GlobalId) (admitted : Bool) → cond admitted (Orders (record { target = target; what = what })) RunsAlone ≡ Sends send → None ≡ destination_place m send.to
    asks target true e = cc
    asks target false e = cc

    by : (target : Id) → ask_act m t target what ≡ Sends send → None ≡ destination_place m send.to
    by NilThread e = cc
    by AnyThread e = cc
    by AnyLocalThread e = cc
    by (LocalThread word) e = cc
    by (GlobalThread id) e = asks id (is_admitted m t id what) e
goes_to_partner m t now c (Run own) send e = cc
goes_to_partner m t now c End send e = cc

-- The thread that begins it has this send.
pub goes_there : (p q : Processor) (i : ℕ) (instr : Instr) (partner : Option ℕ) → AreCore p → IsAtHand p i → BeganSend ≡ began_of (act_of p.machine (held p.machine p.local i)) → q ≡ with_local p (begun_by (act_of p.machine (held p.machine p.local i)) i p.local) →
    instr ≡ instruction (held p.machine p.local i) → partner ≡ partner_of p.machine (thread p.local i).context instr → (send : Send) → (thread q.local i).send ≡ Some send → partner ≡ destination_place q.machine send.to
goes_there p q i instr partner core hand began is at finds send has =
    let a : Act = act_of p.machine (held p.machine p.local i) in
    let s = sends_of a began in
    let after = begun_at p q i a s.0 s.1 is in
    let kept : Some s.0 ≡ (thread q.local i).send = sym (ap (λ (t : Thread). t.send) (begun_thread p q i s.0 core hand.own.within after)) in
    let same : s.0 ≡ send = cc in
    finds ∙ ap (partner_of p.machine (thread p.local i).context) at
    ∙ goes_to_partner p.machine (declared p.machine i).id p.local.clock (thread p.local i).context (instruction (held p.machine p.local i)) s.0 s.1
    ∙ ap (λ (x : Send). destination_place p.machine x.to) same ∙ ap (λ (x : Processor). destination_place x.machine send.to) (sym after)

pub act_sends : (p q u : Processor) (i : ℕ) (a : Act) (before middle after : EventBuffer) → AreCore p → IsAtHand p i → BeganSend ≡ began_of a → q ≡ with_local p (begun_by a i p.local) → middle ≡ with_step (steps.Begin (last_name q.machine q.local i)) before →
    ((send : Send) → (thread q.local i).send ≡ Some send → Does (send_goes_to q.machine q.cpu i send (destination_place q.machine send.to)) q u middle after) → Does (acts p.machine p.cpu i a) p u before after
act_sends p q u i a before middle after core hand began is adds goes =
    let s = sends_of a began in
    let at = begun_at p q i a s.0 s.1 is in
    let doing = goes s.0 (ap (λ (t : Thread). t.send) (begun_thread p q i s.0 core hand.own.within at)) in
    let l : Local = comes_to i (begins s.0) p.local in
    let begun : work q.local middle ≡ tells (steps.Begin (last_name p.machine l i)) (work l before) =
    ap (λ (t : EventBuffer). work q.local t) adds ∙ ap (λ (x : Processor). work x.local (with_step (steps.Begin (last_name x.machine x.local i)) before)) at in
    record {
      machine = doing.machine ∙ ap (λ (x : Processor). x.machine) at;
      cpu = doing.cpu ∙ ap (λ (x : Processor). x.cpu) at;
      stamp = doing.stamp ∙ ap (λ (x : Processor). x.local.stamp) at;
      kept = doing.kept ∙ ap (λ (t : EventBuffer). t.before) adds;
      work = doing.work ∙ ap (λ (x : Processor). send_goes_to x.machine x.cpu i s.0 (destination_place x.machine s.0.to) (work q.local middle)) at
          ∙ ap (send_goes_to p.machine p.cpu i s.0 (destination_place p.machine s.0.to)) begun ∙ ap (λ (b : Act). acts p.machine p.cpu i b (work p.local before)) (sym s.1);
    }
