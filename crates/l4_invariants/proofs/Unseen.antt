-- A step that goes unseen changes nothing that the condition reads.
use Rattle.std.proofs.Common.{◌≡◌, ℕ, zero, suc, Bool, true, false, Some, List, [], ◌∷◌, refl, ap, sym, subst, ◌∙◌}
use Rattle.std.proofs.lemmas.Bool.{and_parts, eqb-true, eqb-false, not-true}
use Rattle.std.specs.Prelude.{◌==◌, ◌||◌, not, slice_get}
use Rattle.std.specs.List.{list_any}
use Rattle.std.specs.Option.{option_map}
use Rattle.l4_model.specs.Words.{GlobalId}
use Rattle.l4_model.specs.Machine.{Declaration, Machine, Assign, AssignTag, AssignVs, GoTo, GoToOnErr, GoToOnLabel, GoToOnWord, GoToOnFrom, Instr, Run, Ipc, Ask, End}
use Rattle.l4_model.specs.World.{Thread, World, Ready, change, changed}
use Rattle.l4_model.specs.Conditions.{Found, found, instruction}
use Rattle.l4_model.specs.Effects.{runs, begins, waits, orders}
use Rattle.l4_model.specs.Steps.{Step, Local, Begin, Wait, Order}
use Rattle.l4_model.specs.History.{state_of}
use Rattle.l4_model.proofs.Chains.{some_is, get-changed_same, get-changed_other, length-changed}
use Rattle.l4_model.proofs.Inversions.{local_taken, begin_taken, wait_taken, order_taken}
use Rattle.l4_model.proofs.Places.{Known, known, id_of}
use Rattle.l4_worlds.specs.Late.{next_late}
use Rattle.l4_first.specs.First.{stands_alone}
use Rattle.l4_first.proofs.Alone.{is_ready_is}
use Rattle.l4_invariants.specs.Inner.Reads.{Part, InState, InCode, InSenders, InRegisters, InSend, Reads, AreSameIn, AreReadAlike, written, reads_any, run_is_visible, is_visible, goes_unseen}

-- What is written is not read.

unread : (r : Part → Bool) (ps : List Part) (i : ℕ) (p : Part) → list_any r ps ≡ false → slice_get ps i ≡ Some p →
    r p ≡ true → ⊥
unread r [] i p none at is = cc
unread r (q ∷ ps) i p none at is = by (r q) refl none i at (λ j there later. unread r ps j p there later is)
  where
    by : (b : Bool) → r q ≡ b → (b || list_any r ps) ≡ false → (i : ℕ) → slice_get (q ∷ ps) i ≡ Some p →
        ((j : ℕ) → list_any r ps ≡ false → slice_get ps j ≡ Some p → ⊥) → ⊥
    by true its none i at rest = cc
    by false its none zero at rest = let no : false ≡ true = sym its ∙ ap r (some_is q p at) ∙ is in cc
    by false its none (suc i) at rest = rest i none at

-- One thread

pub same_all : (r : Part → Bool) (t : Thread) → AreSameIn r t t
same_all r t =
    record {
      state = λ is. refl;
      code = λ is. refl;
      from = λ is. refl;
      actual = λ is. refl;
      registers = λ is. refl;
      send = λ is. refl;
    }

same_ran : (r : Part → Bool) (i : Instr) (t : Thread) → t.phase ≡ Ready → list_any r (written i) ≡ false →
    AreSameIn r t (runs i t)
same_ran r (Run (Assign a value)) t ready apart = record {
  state = λ is. ap state_of ready;
  code = λ is. refl;
  from = λ is. refl;
  actual = λ is. refl;
  registers = λ is. absurd (unread r (written (Run (Assign a value))) 0 InRegisters apart refl is);
  send = λ is. refl;
}
same_ran r (Run (AssignTag word)) t ready apart = record {
  state = λ is. ap state_of ready;
  code = λ is. refl;
  from = λ is. refl;
  actual = λ is. refl;
  registers = λ is. absurd (unread r (written (Run (AssignTag word))) 0 InRegisters apart refl is);
  send = λ is. refl;
}
same_ran r (Run (AssignVs from)) t ready apart = record {
  state = λ is. ap state_of ready;
  code = λ is. refl;
  from = λ is. refl;
  actual = λ is. absurd (unread r (written (Run (AssignVs from))) 0 InSenders apart refl is);
  registers = λ is. refl;
  send = λ is. refl;
}
same_ran r (Run (GoTo place)) t ready apart = record {
  state = λ is. ap state_of ready;
  code = λ is. refl;
  from = λ is. refl;
  actual = λ is. refl;
  registers = λ is. refl;
  send = λ is. refl;
}
same_ran r (Run (GoToOnErr place)) t ready apart = record {
  state = λ is. ap state_of ready;
  code = λ is. refl;
  from = λ is. refl;
  actual = λ is. refl;
  registers = λ is. refl;
  send = λ is. refl;
}
same_ran r (Run (GoToOnLabel label place)) t ready apart = record {
  state = λ is. ap state_of ready;
  code = λ is. refl;
  from = λ is. refl;
  actual = λ is. refl;
  registers = λ is. refl;
  send = λ is. refl;
}
same_ran r (Run (GoToOnWord a word place)) t ready apart = record {
  state = λ is. ap state_of ready;
  code = λ is. refl;
  from = λ is. refl;
  actual = λ is. refl;
  registers = λ is. refl;
  send = λ is. refl;
}
same_ran r (Run (GoToOnFrom id place)) t ready apart = record {
  state = λ is. ap state_of ready;
  code = λ is. refl;
  from = λ is. refl;
  actual = λ is. refl;
  registers = λ is. refl;
  send = λ is. refl;
}
same_ran r (Ipc to from send_period receive_period) t ready apart = record {
  state = λ is. ap state_of ready;
  code = λ is. absurd (unread r (written (Ipc to from send_period receive_period)) 0 InCode apart refl is);
  from = λ is. absurd (unread r (written (Ipc to from send_period receive_period)) 1 InSenders apart refl is);
  actual = λ is. refl;
  registers = λ is. absurd (unread r (written (Ipc to from send_period receive_period)) 2 InRegisters apart refl is);
  send = λ is. refl;
}
same_ran r (Ask target what) t ready apart = record {
  state = λ is. ap state_of ready;
  code = λ is. absurd (unread r (written (Ask target what)) 0 InCode apart refl is);
  from = λ is. refl;
  actual = λ is. refl;
  registers = λ is. refl;
  send = λ is. refl;
}
same_ran r End t ready apart = record {
  state = λ is. absurd (unread r (written End) 0 InState apart refl is);
  code = λ is. refl;
  from = λ is. refl;
  actual = λ is. refl;
  registers = λ is. refl;
  send = λ is. refl;
}

-- A world where one thread has changed

module _ (m : Machine) (reads : Reads) (w : World) where
  pub changed_alike : (id : GlobalId) (t : Found) (f : Thread → Thread) → found m w id ≡ Some t →
      AreSameIn (reads t.declared.id) t.now (f t.now) → AreReadAlike m reads w (change w t.at f)
  changed_alike id t f is same = record {
    counted = sym (length-changed f w.threads t.at);
    each = λ place d x y declared one other. by place d x y declared one other (t.at == place) refl;
  }
    where
      k : Known m w id t
      k = known m w id t is

      by : (place : ℕ) (d : Declaration) (x y : Thread) → slice_get m.threads place ≡ Some d →
          slice_get w.threads place ≡ Some x →
          slice_get (changed f w.threads t.at) place ≡ Some y → (b : Bool) → (t.at == place) ≡ b → AreSameIn
          (reads d.id) x y
      by place d x y declared one other true at =
          let here : t.at ≡ place = eqb-true t.at place at in
          let d_is : t.declared ≡ d =
          some_is t.declared d (sym k.declared ∙ ap (slice_get m.threads) here ∙ declared) in
          let x_is : t.now ≡ x = some_is t.now x (sym k.now ∙ ap (slice_get w.threads) here ∙ one) in
          let y_is : f t.now ≡ y =
          some_is (f t.now) y
          (sym (get-changed_same f w.threads t.at ∙ ap (option_map f) k.now)
          ∙ ap (slice_get (changed f w.threads t.at)) here
          ∙ other)
          in
          subst (λ (z : Thread). AreSameIn (reads d.id) x z) y_is
          (subst (λ (z : Thread). AreSameIn (reads d.id) z (f t.now)) x_is
          (subst (λ (e : Declaration). AreSameIn (reads e.id) t.now (f t.now)) d_is same))
      by place d x y declared one other false at =
          let y_is : x ≡ y =
          some_is x y (sym one ∙ sym (get-changed_other f w.threads t.at place (eqb-false t.at place at)) ∙ other) in
          subst (λ (z : Thread). AreSameIn (reads d.id) x z) y_is (same_all (reads d.id) x)

  -- Each of the steps that may go unseen

  of_local : (id : GlobalId) (v : World) → run_is_visible reads (found m w id) ≡ false →
      next_late m w (Local id) ≡ Some v → AreReadAlike m reads w v
  of_local id v hidden goes =
      let k = local_taken m w v id goes in
      let apart : reads_any reads k.t.declared.id (written (instruction k.t)) ≡ false =
      sym (ap (run_is_visible reads) k.found) ∙ hidden in
      subst (AreReadAlike m reads w) k.leads_to
      (changed_alike id k.t (runs (instruction k.t)) k.found
      (same_ran (reads k.t.declared.id) (instruction k.t) k.t.now (is_ready_is k.t.now.phase k.ready) apart))

  not_read : (id : GlobalId) (t : Found) (ps : List Part) (i : ℕ) (p : Part) → found m w id ≡ Some t →
      reads_any reads id ps ≡ false → slice_get ps i ≡ Some p → reads t.declared.id p ≡ true → ⊥
  not_read id t ps i p is hidden at read =
      unread (reads id) ps i p hidden at (ap (λ x. reads x p) (sym (id_of m w id t is).0) ∙ read)

  by_step : (step : Step) (v : World) → stands_alone m step ≡ true → is_visible m reads w step ≡ false →
      next_late m w step ≡ Some v → AreReadAlike m reads w v
  by_step (Local id) v alone hidden goes = of_local id v hidden goes
  by_step (Begin s) v alone hidden goes =
      let k = begin_taken m w v s goes in
      subst (AreReadAlike m reads w) k.leads_to
      (changed_alike s.thread k.t (begins k.send) k.found (record {
        state = λ is. absurd (not_read s.thread k.t (InState ∷ InSend ∷ []) 0 InState k.found hidden refl is);
        code = λ is. refl;
        from = λ is. refl;
        actual = λ is. refl;
        registers = λ is. refl;
        send = λ is. absurd (not_read s.thread k.t (InState ∷ InSend ∷ []) 1 InSend k.found hidden refl is);
      }))
  by_step (Wait id) v alone hidden goes =
      let k = wait_taken m w v id goes in
      subst (AreReadAlike m reads w) k.leads_to
      (changed_alike id k.t (waits k.receive k.t.clock) k.found (record {
        state = λ is. absurd (not_read id k.t (InState ∷ []) 0 InState k.found hidden refl is);
        code = λ is. refl;
        from = λ is. refl;
        actual = λ is. refl;
        registers = λ is. refl;
        send = λ is. refl;
      }))
  by_step (Order caller target what) v alone hidden goes =
      let k = order_taken m w v caller target what goes in
      subst (AreReadAlike m reads w) k.leads_to
      (changed_alike caller k.t (orders k.order) k.found (record {
        state = λ is. absurd (not_read caller k.t (InState ∷ []) 0 InState k.found hidden refl is);
        code = λ is. refl;
        from = λ is. refl;
        actual = λ is. refl;
        registers = λ is. refl;
        send = λ is. refl;
      }))
  by_step _ v alone hidden goes = cc

  pub unseen : (v : World) (step : Step) → goes_unseen m reads w step ≡ true → next_late m w step ≡ Some v →
      AreReadAlike m reads w v
  unseen v step hidden goes =
      let both = and_parts (stands_alone m step) (not (is_visible m reads w step)) hidden in
      by_step step v both.0 (not-true (is_visible m reads w step) both.1) goes
