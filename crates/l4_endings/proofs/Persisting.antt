-- The choices of a closed set are those of a persistent one.
use Rattle.std.proofs.Common.{◌≡◌, ℕ, zero, suc, ◌+◌, ◌*◌, ◌<◌, ◌≤◌, ◌⊎◌, inl, inr, Bool, true, false, Option, cond, ◌&&◌, ◌||◌, None, Some, List, [], ◌∷◌, ◌++◌, length, filter, refl, ap, sym, subst, ◌∙◌, arith}
use Rattle.std.specs.Prelude.{◌==◌, map, slice_get}
use Rattle.std.specs.List.{list_any, range_with_len}
use Rattle.std.specs.Option.{option_map}
use Rattle.std.proofs.lemmas.Bool.{cases_lt}
use Rattle.std.proofs.lemmas.Option.{slice_get_within}
use Rattle.l4_model.specs.Words.{clock_limit, period_limit}
use Rattle.l4_model.specs.Machine.{Machine, most_processors}
use Rattle.l4_model.proofs.Chains.{some_is}
use Rattle.l4_core_model.specs.Local.{Local, is_own, own_places, thread}
use Rattle.l4_core_model.specs.Runs.{IsMachine, System, is_empty, letters, opening_system}
use Rattle.l4_explore.specs.Tries.{deepest, Next, State}
use Rattle.l4_explore.specs.Inner.Views.{next_from}
use Rattle.l4_explore.specs.declared.tries.Choice.{Choice}
use Rattle.l4_states.specs.Choices.{after_choices, choice_count, state_after, state_in, IsReached}
use Rattle.l4_states.specs.Inner.Remembered.{known_of, local_at, pair_place, rests_at}
use Rattle.l4_states.proofs.Following.{has_reached}
use Rattle.l4_states.proofs.Places.{pair_below, pair_rests}
use Rattle.l4_states.proofs.Reached.{reached_within}
use Rattle.l4_states.proofs.Remembered.{pair_is}
use Rattle.l4_persistent.specs.Persistent.{IsPersistent}
use Rattle.l4_persistent.specs.Inner.Ends.{everybody, CanGoOn}
use Rattle.l4_persistent.specs.Inner.Posts.{aims_of, may_post, may_post_by, may_propagate, waits_for, IsClosed}
use Rattle.l4_persistent.specs.Rests.{clock_at, clock_in, horizon, processor_of}
use Rattle.l4_persistent.proofs.Closed.{closed_persistent}
use Rattle.l4_persistent.proofs.Marked.{are_aims}
use Rattle.l4_sets.specs.Inner.Contacts.{AreContacts}
use Rattle.l4_sets.specs.Inner.Sets.{has, most}
use Rattle.l4_parts.specs.declared.parts.Part.{Part}
use Rattle.l4_parts.specs.Inner.Known.{number_at, AreTrue, IsAt, IsRowBehind}
use Rattle.l4_parts.proofs.Knowing.{own_place}
use Rattle.l4_persistent.proofs.Slow.{AreSlow, slow_clock}
use Rattle.l4_endings.specs.Inner.Posted.{may_post_in, part_of, IsClosedIn}
use Rattle.l4_endings.specs.Inner.Tried.{is_of, AreOffered, AreUpTo}
use Rattle.l4_endings.proofs.Finding.{none_past}
use Rattle.l4_endings.proofs.Nexts.{is_offered}

-- Where one of three is true, what follows from each does.
pub one_of : {P : Type 0} (a b c : Bool) → (a || (b || c)) ≡ true → (a ≡ true → P) → (b ≡ true → P) →
    (c ≡ true → P) → P
one_of true b c h f g k = f refl
one_of false true c h f g k = g refl
one_of false false c h f g k = k h

-- A thread of the processor passes the test.
any_own : {P : Type 0} (own p : ℕ → Bool) (a n : ℕ) →
    list_any p (filter own (range_with_len a n)) ≡ true →
    ((i : ℕ) → i < a + n → own i ≡ true → p i ≡ true → P) → P
any_own {P = P} own p a zero h f = cc
any_own {P = P} own p a (suc n) h f = by (own a) refl h (λ h. any_own own p (a + 1) n h (λ i l. f i (omega (arith, l))))
  where
    by : (b : Bool) → own a ≡ b →
        list_any p (cond b (a ∷ filter own (range_with_len (a + 1) n)) (filter own (range_with_len (a + 1) n)))
        ≡ true →
        (list_any p (filter own (range_with_len (a + 1) n)) ≡ true → P) → P
    by false is h rest = rest h
    by true is h rest = here (p a) refl h
      where
        here : (b : Bool) → p a ≡ b →
            (b || list_any p (filter own (range_with_len (a + 1) n))) ≡ true → P
        here true at h = f a (omega arith) is at
        here false at h = rest h

both : (a b : Bool) → a ≡ true → b ≡ true → (a && b) ≡ true
both a b h k = (λ i. h i && b) ∙ k

or_left : (a b : Bool) → a ≡ true → (a || b) ≡ true
or_left true b h = refl
or_left false b h = cc

or_right : (a b : Bool) → b ≡ true → (a || b) ≡ true
or_right true b h = refl
or_right false b h = h

slow_at : (events : ℕ) (ls : List Local) (cpu : ℕ) → AreSlow events ls →
    clock_in (slice_get ls cpu) + clock_in (slice_get ls cpu) ≤ (events + 1) * period_limit
slow_at events ls cpu slow = by (slice_get ls cpu) refl
  where
    by : (o : Option Local) → slice_get ls cpu ≡ o → clock_in o + clock_in o ≤ (events + 1) * period_limit
    by None at = omega arith
    by (Some l) at = slow_clock events ls cpu l slow at

module _ (m : Machine) (machine : IsMachine m) (few : m.cpus ≤ most_processors) (s : List ℕ)
    (parts : List Part) (row : List ℕ) (true_ : AreTrue m parts) (r : IsRowBehind m s parts row)
    (short : length s < deepest) where
  reached : IsReached m r.system
  reached = has_reached m s r.system r.leads

  known_contacts : (cpu : ℕ) → cpu < m.cpus →
      AreContacts m cpu (local_at m r.system cpu) (part_of parts row cpu).contacts
  known_contacts cpu own =
      let at = r.row_is.at cpu (omega (arith, own)) in
      let p = part_of parts row cpu in
      subst (λ n. AreContacts m n (local_at m r.system n) p.contacts) at.at.place_is
      ((true_ (number_at row cpu) at.inside).contacts r.system reached
      (omega (arith, own, at.at.place_is))
      (subst (λ n. IsAt m r.system n p) (sym at.at.place_is) at.at))

  way_rests : (from to : ℕ) → from < m.cpus → to < m.cpus → letters r.system.mail from to ≡ [] →
      (part_of parts row (pair_place m.cpus from to)).rests ≡ true
  way_rests from to a b none =
      let place = pair_place m.cpus from to in
      let at = r.row_is.at place (pair_below m from to a b) in
      let p = part_of parts row place in
      let pair = pair_is m from to a in
      sym ((true_ (number_at row place) at.inside).rests r.system reached
      (subst (λ n. IsAt m r.system n p) (sym at.at.place_is) at.at))
      ∙ ap (rests_at m r.system) at.at.place_is ∙ pair_rests m r.system place (omega arith)
      ∙ (λ i. is_empty (letters r.system.mail (pair.1 i) (pair.0 i))) ∙ ap is_empty none

  -- What may be posted the parts say.
  posts_there : (from to : ℕ) (l k : Local) → slice_get r.system.locals from ≡ Some l →
      slice_get r.system.locals to ≡ Some k → letters r.system.mail from to ≡ [] →
      may_post m (aims_of m) from to l k ≡ true → may_post_in parts row m.cpus from to ≡ true
  posts_there from to l k at_from at_to none h =
      both (part_of parts row (pair_place m.cpus from to)).rests (posts || waits)
      (way_rests from to own_from own_to none)
      (one_of (may_propagate m) (list_any (λ j. waits_for m from (thread k j)) (own_places m to))
      (list_any (may_post_by m (aims_of m) to l) (own_places m from)) h
      (λ may. or_left posts waits (known_from.all to may small_to))
      (λ waiting. any_own (is_own m to) (λ j. waits_for m from (thread k j)) 0 (length m.threads) waiting
      (λ j inside own is. or_right posts waits (known_to.waits j from (omega (arith, inside)) own small_from is)))
      (λ posting. any_own (is_own m from) (may_post_by m (aims_of m) to l) 0 (length m.threads) posting
      (λ j inside own is. or_left posts waits (known_from.posts j to (omega (arith, inside)) own small_to is))))
    where
      own_from : from < m.cpus
      own_from = omega (arith, slice_get_within r.system.locals from l at_from, (reached_within m r.system machine reached).locals)

      own_to : to < m.cpus
      own_to = omega (arith, slice_get_within r.system.locals to k at_to, (reached_within m r.system machine reached).locals)

      small_from : from < most
      small_from = omega (arith, own_from, few)

      small_to : to < most
      small_to = omega (arith, own_to, few)

      posts : Bool
      posts = has (part_of parts row from).contacts.posts to

      waits : Bool
      waits = has (part_of parts row to).contacts.waits from

      known_from : AreContacts m from l (part_of parts row from).contacts
      known_from = subst (λ (x : Local). AreContacts m from x (part_of parts row from).contacts)
          (ap (known_of m from) at_from) (known_contacts from own_from)

      known_to : AreContacts m to k (part_of parts row to).contacts
      known_to = subst (λ (x : Local). AreContacts m to x (part_of parts row to).contacts)
          (ap (known_of m to) at_to) (known_contacts to own_to)

  closed : (set : ℕ) → IsClosedIn parts row m.cpus set → IsClosed m (aims_of m) r.system (has set)
  closed set is from to l k out inside at_from at_to none =
      by (may_post m (aims_of m) from to l k) refl
    where
      by : (b : Bool) → may_post m (aims_of m) from to l k ≡ b → b ≡ false
      by false e = refl
      by true e =
          let own_from : from < m.cpus = omega (
            arith,
            slice_get_within r.system.locals from l at_from,
            (reached_within m r.system machine reached).locals,
          ) in
          let own_to : to < m.cpus = omega (
            arith,
            slice_get_within r.system.locals to k at_to,
            (reached_within m r.system machine reached).locals,
          ) in
          let yes_in = is from to own_from own_to inside (posts_there from to l k at_from at_to none e) in
          let no = sym yes_in ∙ out in cc

  persistent : (set : ℕ) → IsClosedIn parts row m.cpus set → IsPersistent m r.system (has set)
  persistent set is =
      subst (λ (g : System). IsPersistent m g (has set)) reached.system
      (closed_persistent m machine (has set) (aims_of m) reached.run (reached.actions, reached.is)
      (are_aims m)
      (subst (λ (g : System). IsClosed m (aims_of m) g (has set)) (sym reached.system) (closed set is)))

  early : (cpu : ℕ) → clock_at r.system cpu + horizon ≤ clock_limit
  early cpu = omega (arith, slow_at (length s) r.system.locals cpu r.slow, short)

  -- A number that leads on is one of the choices.
  below_count : (number : ℕ) (state : State) → state_after m (s ++ number ∷ []) ≡ Some state →
      number < choice_count m
  below_count number state leads = by (cases_lt number (choice_count m))
    where
      by : (number < choice_count m) ⊎ (choice_count m ≤ number) → number < choice_count m
      by (inl less) = less
      by (inr past) = let none = sym (none_past m s parts row number machine r past) ∙ leads in cc

  of_set : (set : ℕ) (choices : List Next) → IsClosedIn parts row m.cpus set →
      AreUpTo (state_after m) (is_of m set) s 0 (choice_count m) choices →
      (CanGoOn m s everybody → CanGoOn m s (has set)) → AreOffered m s choices
  of_set set choices is all some = λ before seen same at. record {
    system = r.system;
    leads = ap (after_choices m (opening_system m)) same ∙ r.leads;
    is = some_is (state_in m r.system) seen.state (sym (ap (option_map (state_in m)) r.leads) ∙ at);
    early = early;
    set = has set;
    persistent = persistent set is;
    some = subst (λ t. CanGoOn m t everybody → CanGoOn m t (has set)) (sym same) some;
    all = λ number state inside leads.
        let here = ap (λ t. state_after m (t ++ number ∷ [])) (sym same) ∙ leads in
        is_offered (state_after m) (is_of m set) s 0 (choice_count m) choices all number state inside
        (omega arith) (below_count number state here) here;
  }

  -- Where some choice of the set can be made
  pub with_some : (set : ℕ) (choices : List Next) → IsClosedIn parts row m.cpus set →
      AreUpTo (state_after m) (is_of m set) s 0 (choice_count m) choices → (choices ≡ [] → ⊥) →
      AreOffered m s choices
  with_some set choices is all some =
      of_set set choices is all (λ can. by choices all some)
    where
      by : (cs : List Next) → AreUpTo (state_after m) (is_of m set) s 0 (choice_count m) cs →
          (cs ≡ [] → ⊥) → CanGoOn m s (has set)
      by [] all some = absurd (some refl)
      by (c ∷ cs) all some = record {
        number = c.entry;
        inside = all.0.1;
        state = c.state;
        leads = all.1.leads;
      }

  -- The choices of all processors
  pub with_all : (set : ℕ) (choices : List Next) → ((cpu : ℕ) → 0 ≤ cpu → cpu < most → has set cpu ≡ true) →
      AreUpTo (state_after m) (is_of m set) s 0 (choice_count m) choices → AreOffered m s choices
  with_all set choices each all =
      of_set set choices (λ from to a b inside h. each from (omega arith) (omega (arith, a, few))) all
      (λ can. record {
        number = can.number;
        inside = each (processor_of m can.number) (omega arith)
            (omega (arith, few, own_place m can.number (below_count can.number can.state can.leads)));
        state = can.state;
        leads = can.leads;
      })

-- There are some.
pub counted : (cs : List Choice) (n : ℕ) → n ≡ length cs → (n == 0) ≡ false →
    map next_from cs ≡ [] → ⊥
counted [] n many some none =
    let no = sym (ap (λ k. k == 0) many) ∙ some in cc
counted (c ∷ cs) n many some none = cc
