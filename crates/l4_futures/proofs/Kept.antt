-- What a search needs of the states of worlds: those of one code are equal, and the choices that are
-- tried lose no end.
use Rattle.std.proofs.Common.{◌≡◌, ℕ, zero, suc, ◌+◌, Bool, true, false, inl, inr, Option, Some, None, List, [], ◌∷◌, ◌++◌, length, refl, ap, sym, subst, ◌∙◌, arith}
use Rattle.std.specs.Prelude.{slice_get, is_some, filter_map}
use Rattle.std.specs.List.{cons_option}
use Rattle.std.specs.Option.{option_map}
use Rattle.l4_model.specs.Machine.{Machine}
use Rattle.l4_model.specs.World.{World, opening}
use Rattle.l4_model.specs.Conditions.{◌>>=◌}
use Rattle.l4_model.specs.Steps.{Step}
use Rattle.l4_model.proofs.Chains.{some_is}
use Rattle.l4_worlds.specs.Late.{next_late, run_late}
use Rattle.l4_worlds.specs.Histories.{IsTimed, IsStillLate}
use Rattle.l4_worlds.specs.Bare.{AreAsGood}
use Rattle.l4_worlds.proofs.LateFutures.{late_still}
use Rattle.l4_worlds.proofs.Passing.{map_from}
use Rattle.l4_explore.specs.Tries.{State, Next, AreCoded, AreSchedules}
use Rattle.l4_explore.specs.Search.{Seen}
use Rattle.l4_explore.specs.Inner.Ends.{IsNearer, AreKept}
use Rattle.l4_states.specs.Inner.Bytes.{bytes_of}
use Rattle.l4_states.proofs.Bytes.{bytes_apart}
use Rattle.l4_futures.specs.Inner.Codes.{code_of}
use Rattle.l4_futures.specs.Choices.{Choice, possible, tried, after_entry, after_entries, world_after}
use Rattle.l4_futures.specs.Inner.Ends.{is_end, EndsIn}
use Rattle.l4_futures.specs.Inner.Search.{state_in, state_after, next_by, AreTried, MayEnd}
use Rattle.l4_futures.proofs.Coded.{coded}
use Rattle.l4_futures.proofs.Ways.{by_steps, clocks_same, is_choice, none, same, onwards, at_end}

-- Entries in a row

stays_none : (m : Machine) (s : List ℕ) (e : ℕ) (w : World) → after_entries m w s ≡ None → after_entries m w (s ++ e ∷ []) ≡ None
stays_none m [] e w h = cc
stays_none m (x ∷ s) e w h = by (after_entry m w x) h (λ v. stays_none m s e v)
  where
    by : (o : Option World) → (o >>= λ v. after_entries m v s) ≡ None →
        ((v : World) → after_entries m v s ≡ None → after_entries m v (s ++ e ∷ []) ≡ None) →
        (o >>= λ v. after_entries m v (s ++ e ∷ [])) ≡ None
    by None h rest = refl
    by (Some v) h rest = rest v h

pub one_more : (m : Machine) (s : List ℕ) (e : ℕ) (w v u : World) → after_entries m w s ≡ Some v → after_entry m v e ≡ Some u → after_entries m w (s ++ e ∷ []) ≡ Some u
one_more m [] e w v u first last = ap (λ o. o >>= λ x. Some x) (ap (λ x. after_entry m x e) (some_is w v first) ∙ last)
one_more m (x ∷ s) e w v u first last = by (after_entry m w x) first (λ y more. one_more m s e y v u more last)
  where
    by : (o : Option World) → (o >>= λ y. after_entries m y s) ≡ Some v →
        ((y : World) → after_entries m y s ≡ Some v → after_entries m y (s ++ e ∷ []) ≡ Some u) →
        (o >>= λ y. after_entries m y (s ++ e ∷ [])) ≡ Some u
    by None h rest = cc
    by (Some y) h rest = rest y h

-- States

pub state_led : (m : Machine) (s : List ℕ) (a : State) → state_after m s ≡ Some a → (w : World) × (world_after m s ≡ Some w) × (state_in m w ≡ a)
state_led m s a h = map_from (state_in m) (world_after m s) a h

pub same_code : (m : Machine) (w v : World) → bytes_of (code_of m w) ≡ bytes_of (code_of m v) → code_of m w ≡ code_of m v
same_code m w v e = bytes_apart (code_of m w) (code_of m v) e

-- Nothing is possible where a world is still.
pub ended : (m : Machine) (w : World) → IsStillLate m w → is_end m w ≡ true
ended m w still = by (possible m w) refl
  where
    by : (cs : List Choice) → possible m w ≡ cs → is_end m w ≡ true
    by [] is = rw is refl
    by (c ∷ cs) is =
        let k = is_choice m w 0 c (ap (λ xs. slice_get xs 0) is) in
        let no : is_some (next_late m w c.step) ≡ false = ap is_some (still c.step) in
        cc

both : (b c : Bool) → (b ≡ true → c ≡ true) → (c ≡ true → b ≡ true) → b ≡ c
both true true f g = refl
both true false f g = sym (f refl)
both false true f g = g refl
both false false f g = refl

module _ (m : Machine) (timed : IsTimed m) where
  pub as_good : (g h : List ℕ) (w v : World) → world_after m g ≡ Some w → world_after m h ≡ Some v → code_of m w ≡ code_of m v → AreAsGood w v
  as_good g h w v a b codes =
      let x = by_steps m g (opening m) w a in
      let y = by_steps m h (opening m) v b in
      (coded m w v (clocks_same m x.steps y.steps w v timed x.runs y.runs)).0 codes

  still_too : (g h : List ℕ) (w v : World) → world_after m g ≡ Some w → world_after m h ≡ Some v → code_of m w ≡ code_of m v → is_end m w ≡ true → is_end m v ≡ true
  still_too g h w v a b codes end =
      let x = by_steps m g (opening m) w a in
      let y = by_steps m h (opening m) v b in
      ended m v (late_still m x.steps y.steps w v timed x.runs y.runs (as_good g h w v a b codes) (at_end m w end))

  state_same : (g h : List ℕ) (w v : World) → world_after m g ≡ Some w → world_after m h ≡ Some v → code_of m w ≡ code_of m v → state_in m w ≡ state_in m v
  state_same g h w v a b codes =
      let ends : is_end m w ≡ is_end m v = both (is_end m w) (is_end m v) (still_too g h w v a b codes) (still_too h g v w b a (sym codes)) in
      λ i. record { code = bytes_of (codes i); is_end = ends i }

  states_coded : AreCoded (state_after m)
  states_coded s t a b at_s at_t codes =
      let x = state_led m s a at_s in
      let y = state_led m t b at_t in
      let code : code_of m x.0 ≡ code_of m y.0 = same_code m x.0 y.0 (ap (λ (c : State). c.code) x.2 ∙ codes ∙ sym (ap (λ (c : State). c.code) y.2)) in
      sym x.2 ∙ state_same s t x.0 y.0 x.1 y.1 code ∙ y.2

  begins : (s : List ℕ) (e : ℕ) → state_after m s ≡ None → state_after m (s ++ e ∷ []) ≡ None
  begins s e h = ap (option_map (state_in m)) (stays_none m s e (opening m) (nothing (world_after m s) h))
    where
      nothing : (o : Option World) → option_map (state_in m) o ≡ None → o ≡ None
      nothing None h = refl
      nothing (Some w) h = cc

  pub schedules : AreSchedules (state_after m)
  schedules = record { begins = begins; coded = states_coded }

  -- No choice that an end needs is left out.

  here : (state end : State) → MayEnd m state 0 end → state ≡ end
  here state end e =
      let code : bytes_of (code_of m e.world) ≡ end.code = ap bytes_of (none m e.world e.code e.ends) ∙ sym e.coded in
      let last : is_end m e.world ≡ end.is_end = ended m e.world (still e.ends.steps e.ends.as_many e.ends.leads) ∙ sym e.is_end in
      sym e.is ∙ (λ i. record { code = code i; is_end = last i })
    where
      still : (steps : List Step) → length steps ≡ 0 → run_late m e.world steps ≡ Some e.ends.last → IsStillLate m e.world
      still [] long leads = subst (IsStillLate m) (sym (some_is e.world e.ends.last leads)) e.ends.still
      still (s ∷ steps) long leads = absurd (omega arith)

  among : (w : World) (cs : List Choice) (i : ℕ) (c : Choice) (n : Next) (more : ℕ) (end : State) → slice_get cs i ≡ Some c → next_by m w c ≡ Some n → MayEnd m n.state more end → IsNearer (MayEnd m) (filter_map (next_by m w) cs) more end
  among w [] i c n more end at is ends = cc
  among w (x ∷ cs) zero c n more end at is ends =
      subst (λ o. IsNearer (MayEnd m) (cons_option o (filter_map (next_by m w) cs)) more end) (sym (ap (next_by m w) (some_is x c at) ∙ is)) (inl ends)
  among w (x ∷ cs) (suc i) c n more end at is ends = by (next_by m w x) (among w cs i c n more end at is ends)
    where
      by : (o : Option Next) → IsNearer (MayEnd m) (filter_map (next_by m w) cs) more end → IsNearer (MayEnd m) (cons_option o (filter_map (next_by m w) cs)) more end
      by None rest = rest
      by (Some y) rest = inr rest

  nearer : (before : List Seen) (seen : Seen) (choices : List Next) → AreTried m before seen choices → (more : ℕ) (end : State) → MayEnd m seen.state (more + 1) end → IsNearer (MayEnd m) choices more end
  nearer before seen choices t more end e =
      let codes : code_of m e.world ≡ code_of m t.world = same_code m e.world t.world (ap (λ (c : State). c.code) (e.is ∙ sym t.is)) in
      let ends : EndsIn m t.world (suc more) e.code =
      subst (λ n. EndsIn m t.world n e.code) (let one : more + 1 ≡ suc more = omega arith in one)
      (same m e.entries seen.schedule e.world t.world (more + 1) e.code timed e.leads t.leads codes e.ends) in
      let on = onwards m seen.schedule t.world more e.code timed t.leads ends in
      subst (λ ns. IsNearer (MayEnd m) ns more end) (sym t.are)
      (among t.world (tried m t.world) on.place on.choice (record { entry = on.choice.entry; state = state_in m on.behind }) more end on.is_tried
      (ap (option_map (λ v. record { entry = on.choice.entry; state = state_in m v })) on.leads)
      (record {
        entries = seen.schedule ++ on.choice.entry ∷ [];
        world = on.behind;
        leads = one_more m seen.schedule on.choice.entry (opening m) t.world on.behind t.leads on.leads;
        is = refl;
        code = e.code;
        ends = on.ends;
        coded = e.coded;
        is_end = e.is_end;
      }))

  pub kept : AreKept (MayEnd m) (AreTried m)
  kept = record { here = here; nearer = nearer }
