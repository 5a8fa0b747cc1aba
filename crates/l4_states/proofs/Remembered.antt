-- Wherever an event reads the same, it does the same.
use Rattle.std.proofs.Common.{◌≡◌, ℕ, ◌+◌, ◌-◌, ◌*◌, ◌/◌, ◌%◌, ◌<◌, ◌≤◌, ◌⊎◌, inl, inr, Bool, true, false, cond, ◌==◌, Option, Some, None, List, [], ◌∷◌, ◌++◌, length, get_or, map, refl, ap, subst, sym, ◌∙◌, arith, length-append}
use Rattle.std.specs.Prelude.{nat_lt, slice_get}
use Rattle.std.specs.Option.{option_map}
use Rattle.std.proofs.lemmas.Bool.{cases_eq, cases_lt, lt-ltb, le-ltb, ltb-true, ltb-false, ne_eqb}
use Rattle.std.proofs.lemmas.Nat.{div-mul-add, mod-mul-add}
use Rattle.std.proofs.lemmas.List.{append-nil, length-map}
use Rattle.std.proofs.lemmas.Option.{slice_get-get_or}
use Rattle.l4_model.specs.Words.{clock_limit}
use Rattle.l4_model.specs.Machine.{Machine}
use Rattle.l4_model.specs.World.{Phase, Ready, Sending, Receiving, Ordering, Ended, Deleted, Thread, changed}
use Rattle.l4_model.specs.Conditions.{◌>>=◌}
use Rattle.l4_model.proofs.Chains.{get-changed_same, get-changed_other}
use Rattle.l4_core_model.specs.Letters.{Content, Letter}
use Rattle.l4_core_model.specs.Local.{Local, opening_local}
use Rattle.l4_core_model.specs.Acts.{Work}
use Rattle.l4_core_model.specs.Mail.{handle}
use Rattle.l4_core_model.specs.Turns.{advance, turn}
use Rattle.l4_core_model.specs.Runs.{Happened, IsMachine, Posted, System, Ticks, done, happens, letters, posted, taken, without_first}
use Rattle.l4_core_model.specs.Schedules.{least_deadline, TickOf, LetterOf, CoreOf}
use Rattle.l4_merge.specs.Transitions.{letters_with}
use Rattle.l4_merge.proofs.Mail.{letters-append, letters-posted, letters-without_first, letters-without_other}
use Rattle.l4_bisimilar.specs.Alike.{contents}
use Rattle.l4_bisimilar.specs.Similar.{numberless_content}
use Rattle.l4_bisimilar.specs.Shifted.{ahead, relative_thread, timeless_phase}
use Rattle.l4_bisimilar.proofs.Ways as ways
use Rattle.l4_bisimilar.proofs.Ways.{bare_thread, same_map, timed_phase}
use Rattle.l4_bisimilar.proofs.Works as works
use Rattle.l4_bisimilar.proofs.Turns as turns
use Rattle.l4_bisimilar.proofs.Mail.{done_mail}
use Rattle.l4_bisimilar.proofs.InRuns.{fits}
use Rattle.l4_bisimilar.proofs.Named.{FitsNumber, handle_numbered}
use Rattle.l4_bisimilar.proofs.Numbers.{pared_contents}
use Rattle.l4_bisimilar.proofs.Armed.{ticked_ahead}
use Rattle.l4_bisimilar.proofs.Times.{AreWorks, IsLike, are_like, bare_local, by_times, turn_like}
use Rattle.l4_states.specs.Inner.Codes.{chained, content_code, local_code, mail_from_code}
use Rattle.l4_states.specs.Choices.{after_entry, choice, IsReached}
use Rattle.l4_states.specs.Inner.Remembered.{known_of, local_at, cpu_of, part_code, pair_place, place_count, poster_at, poster_of, receiver_at, AreRemembered, AreSame, ReadsTheSame}
use Rattle.l4_states.specs.Inner.Remembered as specs
use Rattle.l4_states.proofs.Parts.{contents_apart, local_apart}
use Rattle.l4_states.proofs.Reached.{reached_within}
use Rattle.l4_states.proofs.Systems.{contents_pared, letters_pared, local_bare}

-- The processor's part of the code is the same in both states ..
abbrev KnowTheSame : Machine → (g h : System) → (cpu : ℕ) → Type 0
KnowTheSame m g h cpu =
    (rest : List ℕ) → local_code (length m.threads) (local_at m g cpu) rest
    ≡ local_code (length m.threads) (local_at m h cpu) rest

-- .. and the part of the letters of a pair.
abbrev HaveTheSame : (g h : System) → (from to : ℕ) → Type 0
HaveTheSame g h from to =
    (rest : List ℕ) → mail_from_code g.mail to from rest ≡ mail_from_code h.mail to from rest

-- The letters of this pair are those that a choice takes the first one of.
abbrev IsTaken : Machine → (number from to : ℕ) → Type 0
IsTaken m number from to =
    (poster_of m number < m.cpus) × (from ≡ poster_of m number) × (to ≡ cpu_of m number)

-- A choice changes nothing but what its processor knows, the letters that it takes one of, and those
-- that come from its processor.
record Keeps (m : Machine) (number : ℕ) (old new : System) : Type 0 where
  processors : (cpu : ℕ) → (cpu ≡ cpu_of m number → ⊥) → local_at m new cpu ≡ local_at m old cpu
  pairs : (from to : ℕ) → (from ≡ cpu_of m number → ⊥) → (IsTaken m number from to → ⊥) →
      letters new.mail from to ≡ letters old.mail from to

-- It has led from g to a, and from h to b, and did the same in both.
record DoAlike (m : Machine) (number : ℕ) (g h a b : System) : Type 0 where
  own : KnowTheSame m a b (cpu_of m number)
  taken : poster_of m number < m.cpus → HaveTheSame a b (poster_of m number) (cpu_of m number)
  posted : (to : ℕ) → HaveTheSame g h (cpu_of m number) to →
      HaveTheSame a b (cpu_of m number) to
  -- where it posts none in one, it posts none in the other
  none_posted : (to : ℕ) → (IsTaken m number (cpu_of m number) to → ⊥) →
      HaveTheSame g a (cpu_of m number) to → HaveTheSame h b (cpu_of m number) to
  kept : Keeps m number g a
  also_kept : Keeps m number h b

abbrev AreTheSame : Machine → (number : ℕ) → (g h : System) → Option System → Option System →
    Type 0
AreTheSame m number g h None None = Unit {0}
AreTheSame m number g h (Some a) (Some b) = DoAlike m number g h a b
AreTheSame m number g h None (Some b) = ⊥
AreTheSame m number g h (Some a) None = ⊥

-- The parts at their places

pub own_code : (m : Machine) (g : System) (cpu : ℕ) → cpu < m.cpus →
    part_code m g cpu ≡ local_code (length m.threads) (local_at m g cpu)
own_code m g cpu own =
    ap (λ (b : Bool). cond b (local_code (length m.threads) (local_at m g cpu))
    (mail_from_code g.mail (receiver_at m cpu) (poster_at m cpu))) (lt-ltb cpu m.cpus own)

pub pair_code : (m : Machine) (g : System) (place : ℕ) → m.cpus ≤ place →
    part_code m g place ≡ mail_from_code g.mail (receiver_at m place) (poster_at m place)
pair_code m g place past =
    ap (λ (b : Bool). cond b (local_code (length m.threads) (local_at m g place))
    (mail_from_code g.mail (receiver_at m place) (poster_at m place))) (le-ltb place m.cpus past)

pub pair_is : (m : Machine) (from to : ℕ) → from < m.cpus →
    (receiver_at m (pair_place m.cpus from to) ≡ to) × (poster_at m (pair_place m.cpus from to) ≡ from)
pair_is m from to inside =
    let less : pair_place m.cpus from to - m.cpus ≡ to * m.cpus + from = omega arith in (
      ap (λ n. n / m.cpus) less ∙ div-mul-add to m.cpus from inside,
      ap (λ n. n % m.cpus) less ∙ mod-mul-add to m.cpus from inside,
    )

pub pair_code_of : (m : Machine) (g : System) (from to : ℕ) → from < m.cpus →
    part_code m g (pair_place m.cpus from to) ≡ mail_from_code g.mail to from
pair_code_of m g from to inside =
    let is = pair_is m from to inside in
    pair_code m g (pair_place m.cpus from to) (omega arith)
    ∙ (λ i. mail_from_code g.mail (is.0 i) (is.1 i))

-- Codes and what they tell

-- What a processor knows, as its part of a code has it
reads : (l : Local) → ways.bare_local by_times l ≡ bare_local l
reads l = λ j. record (bare_local l) { threads = same_map (bare_thread by_times) relative_thread thread l.threads j }
  where
    phase : (p : Phase) → timed_phase (λ n. 0) p ≡ timeless_phase p
    phase Ready = refl
    phase Sending = refl
    phase (Receiving receive since) = refl
    phase Ordering = refl
    phase Ended = refl
    phase Deleted = refl

    thread : (t : Thread) → bare_thread by_times t ≡ relative_thread t
    thread t = λ j. record (relative_thread t) { phase = phase t.phase j }

bare_same : (l k : Local) → IsLike l k → bare_local l ≡ bare_local k
bare_same l k like = sym (reads l) ∙ works.bare_same by_times l k like ∙ reads k

pub like_of : (count : ℕ) (l k : Local) → ((rest : List ℕ) → local_code count l rest ≡ local_code count k rest) →
    IsLike l k
like_of count l k same = are_like l k (local_apart count l k [] [] (same [])).0

code_of_like : (count : ℕ) (l k : Local) → IsLike l k → (rest : List ℕ) →
    local_code count l rest ≡ local_code count k rest
code_of_like count l k like rest =
    local_bare count l rest ∙ ap (λ (n : Local). local_code count n rest) (bare_same l k like)
    ∙ sym (local_bare count k rest)

abbrev AreTold : (g h : System) → (from to : ℕ) → Type 0
AreTold g h from to = pared_contents (letters g.mail from to) ≡ pared_contents (letters h.mail from to)

pub told_of : (g h : System) (from to : ℕ) → HaveTheSame g h from to → AreTold g h from to
told_of g h from to same =
    sym (contents_pared (letters g.mail from to))
    ∙ (contents_apart (contents (letters g.mail from to)) (contents (letters h.mail from to)) [] [] (same [])).0
    ∙ contents_pared (letters h.mail from to)

code_of_told : (g h : System) (from to : ℕ) → AreTold g h from to → HaveTheSame g h from to
code_of_told g h from to told rest =
    letters_pared (letters g.mail from to) rest
    ∙ ap (λ (cs : List Content). chained content_code cs rest) told
    ∙ sym (letters_pared (letters h.mail from to) rest)

-- A processor of a machine
pub known : (m : Machine) (g : System) (cpu : ℕ) → IsMachine m → IsReached m g → cpu < m.cpus →
    slice_get g.locals cpu ≡ Some (local_at m g cpu)
known m g cpu machine reached own =
    by (slice_get g.locals cpu) (get_or g.locals cpu (opening_local m cpu))
    (slice_get-get_or g.locals cpu (opening_local m cpu)
    (omega (arith, own, (reached_within m g machine reached).locals)))
  where
    by : (o : Option Local) (l : Local) → o ≡ Some l → o ≡ Some (known_of m cpu o)
    by None l is = cc
    by (Some k) l is = refl

-- An event that was done

module _ (m : Machine) (number : ℕ) (g h : System) (mail other : List Posted) (x y : Work)
    (like : works.AreLike by_times x y) where
  abbrev cpu : ℕ
  cpu = cpu_of m number

  abbrev a : System
  a = (done cpu (record g { mail = mail }) x).system

  abbrev b : System
  b = (done cpu (record h { mail = other }) y).system

  own_known : (l k : Local) → slice_get g.locals cpu ≡ Some l → slice_get h.locals cpu ≡ Some k →
      KnowTheSame m a b cpu
  own_known l k at_l at_k rest =
      ap (λ (n : Local). local_code (length m.threads) n rest) (is g.locals x l at_l)
      ∙ code_of_like (length m.threads) x.local y.local like.local rest
      ∙ sym (ap (λ (n : Local). local_code (length m.threads) n rest) (is h.locals y k at_k))
    where
      is : (ls : List Local) (z : Work) (l : Local) → slice_get ls cpu ≡ Some l →
          known_of m cpu (slice_get (changed (λ l. z.local) ls cpu) cpu) ≡ z.local
      is ls z l at =
          ap (known_of m cpu) (get-changed_same (λ (l : Local). z.local) ls cpu
          ∙ ap (option_map (λ (l : Local). z.local)) at)

  mail_told : (from to : ℕ) → pared_contents (letters mail from to) ≡ pared_contents (letters other from to) →
      HaveTheSame a b from to
  mail_told from to same =
      code_of_told a b from to (done_mail by_times cpu from to mail other x.letters y.letters same like.letters)

  abbrev posts : Work → (to : ℕ) → List Letter
  posts z to = letters (map (posted cpu) z.letters) cpu to

  none_more : (to : ℕ) → letters mail cpu to ≡ letters g.mail cpu to →
      letters other cpu to ≡ letters h.mail cpu to → HaveTheSame g a cpu to → HaveTheSame h b cpu to
  none_more to here there same =
      code_of_told h b cpu to
      (ap pared_contents (sym (letters-append cpu to other (map (posted cpu) y.letters)
      ∙ (λ i. there i ++ none (posts y to) no_other i) ∙ append-nil (letters h.mail cpu to))))
    where
      none : (ls : List Letter) → length ls ≡ 0 → ls ≡ []
      none [] e = refl
      none (l ∷ ls) e = absurd (omega (arith, e))

      long : (ls : List Letter) → length (pared_contents ls) ≡ length ls
      long ls = length-map ls (λ (letter : Letter). numberless_content letter.content)

      no_posts : length (posts x to) ≡ 0
      no_posts =
          let all = ap length (told_of g a cpu to same)
          ∙ long (letters a.mail cpu to)
          ∙ ap length (letters-append cpu to mail (map (posted cpu) x.letters))
          ∙ length-append (letters mail cpu to) (posts x to) in
          omega (arith, all, ap length here, long (letters g.mail cpu to))

      no_other : length (posts y to) ≡ 0
      no_other =
          sym (long (posts y to))
          ∙ sym (ap length (done_mail by_times cpu cpu to [] [] x.letters y.letters refl like.letters))
          ∙ long (posts x to) ∙ no_posts

-- All else stays.
kept : (m : Machine) (number : ℕ) (g : System) (mail : List Posted) (x : Work) →
    ((from to : ℕ) → (IsTaken m number from to → ⊥) → letters mail from to ≡ letters g.mail from to) →
    Keeps m number g (done (cpu_of m number) (record g { mail = mail }) x).system
kept m number g mail x same = record {
  processors = λ cpu other.
      ap (known_of m cpu) (get-changed_other (λ (l : Local). x.local) g.locals (cpu_of m number) cpu
      (λ e. other (sym e)));
  pairs = λ from to other apart.
      letters-append from to mail (map (posted (cpu_of m number)) x.letters)
      ∙ (λ i. same from to apart i ++ (letters-posted (cpu_of m number) from to x.letters
      ∙ ap (λ b. cond b (letters_with to x.letters) []) (ne_eqb (cpu_of m number) from (λ e. other (sym e)))) i)
      ∙ append-nil (letters g.mail from to);
}

-- Clocks that go on by as much

same_lt : (a b c d : ℕ) → b - a ≡ d - c → nat_lt a b ≡ nat_lt c d
same_lt a b c d e = by (nat_lt a b) (nat_lt c d) refl refl
  where
    by : (x y : Bool) → nat_lt a b ≡ x → nat_lt c d ≡ y → x ≡ y
    by true true p q = refl
    by false false p q = refl
    by true false p q = absurd (omega (arith, e, ltb-true a b p, ltb-false c d q))
    by false true p q = absurd (omega (arith, e, ltb-false a b p, ltb-true c d q))

advance_like : (m : Machine) (cpu to then : ℕ) (l k : Local) → IsLike l k → to - l.clock ≡ then - k.clock →
    to < clock_limit → then < clock_limit → AreWorks (advance m cpu to l) (advance m cpu then k)
advance_like m cpu to then l k like as_much low lower =
    turns.advance_like by_times m cpu to then l k like (same_lt l.clock to k.clock then as_much)
    (lt-ltb to clock_limit low ∙ sym (lt-ltb then clock_limit lower)) refl refl λ later.
    ticked_ahead l.clock to l.lists.armed (omega (arith, ltb-true l.clock to later))
    ∙ (λ j. map (ahead (as_much j)) (like.armed j))
    ∙ sym (ticked_ahead k.clock then k.lists.armed (omega (arith, as_much, ltb-true l.clock to later)))

-- One choice in two states

module _ (m : Machine) (machine : IsMachine m) (number : ℕ) (g h : System) (own : cpu_of m number < m.cpus)
    (r : ReadsTheSame m number g h) where
  same_own : KnowTheSame m g h (cpu_of m number)
  same_own rest =
      ap (λ (f : List ℕ → List ℕ). f rest) (sym (own_code m g (cpu_of m number) own)) ∙ r.own rest
      ∙ ap (λ (f : List ℕ → List ℕ). f rest) (own_code m h (cpu_of m number) own)

  same_taken : poster_of m number < m.cpus → HaveTheSame g h (poster_of m number) (cpu_of m number)
  same_taken takes rest =
      ap (λ (f : List ℕ → List ℕ). f rest)
      (sym (pair_code_of m g (poster_of m number) (cpu_of m number) takes))
      ∙ r.taken takes rest
      ∙ ap (λ (f : List ℕ → List ℕ). f rest)
      (pair_code_of m h (poster_of m number) (cpu_of m number) takes)

  at_l : slice_get g.locals (cpu_of m number) ≡ Some (local_at m g (cpu_of m number))
  at_l = known m g (cpu_of m number) machine r.first own

  at_n : slice_get h.locals (cpu_of m number) ≡ Some (local_at m h (cpu_of m number))
  at_n = known m h (cpu_of m number) machine r.second own

  like : IsLike (local_at m g (cpu_of m number)) (local_at m h (cpu_of m number))
  like = like_of (length m.threads) _ _ same_own

  abbrev reached_by : System → List Posted → Option Work → Option System
  reached_by k mail o = option_map (λ (x : Happened). x.system) (option_map (done (cpu_of m number) (record k { mail = mail })) o)

  -- An event that takes no letter
  plain : (o p : Option Work) → (poster_of m number < m.cpus → ⊥) → AreWorks o p →
      AreTheSame m number g h (reached_by g g.mail o) (reached_by h h.mail p)
  plain None None none both = tt
  plain (Some x) (Some y) none both = record {
    own = own_known m number g h g.mail h.mail x y both _ _ at_l at_n;
    taken = λ takes. absurd (none takes);
    posted = λ to same. mail_told m number g h g.mail h.mail x y both (cpu_of m number) to
        (told_of g h (cpu_of m number) to same);
    none_posted = λ to apart same. none_more m number g h g.mail h.mail x y both to refl refl same;
    kept = kept m number g g.mail x (λ from to apart. refl);
    also_kept = kept m number h h.mail y (λ from to apart. refl);
  }
  plain None (Some y) none both = absurd both
  plain (Some x) None none both = absurd both

  -- A letter that is handled
  abbrev left : System → List Posted
  left k = without_first (poster_of m number) (cpu_of m number) k.mail

  fits_at : (k : System) (l : Local) (letter : Letter) → IsReached m k →
      slice_get k.locals (cpu_of m number) ≡ Some l →
      slice_get (letters k.mail (poster_of m number) (cpu_of m number)) 0 ≡ Some letter →
      FitsNumber m (cpu_of m number) l letter.content
  fits_at k l letter in_k at first =
      fits m in_k.run (cpu_of m number) (poster_of m number) letter l machine (in_k.actions, in_k.is)
      (subst (λ (j : System). slice_get j.locals (cpu_of m number) ≡ Some l) (sym in_k.system) at)
      (subst (λ (j : System). slice_get (letters j.mail (poster_of m number) (cpu_of m number)) 0 ≡ Some letter)
      (sym in_k.system) first)

  taken_told : (xs ys : List Letter) (a b : Letter) →
      letters g.mail (poster_of m number) (cpu_of m number) ≡ a ∷ xs →
      letters h.mail (poster_of m number) (cpu_of m number) ≡ b ∷ ys → pared_contents xs ≡ pared_contents ys →
      (from to : ℕ) → AreTold g h from to →
      pared_contents (letters (without_first (poster_of m number) (cpu_of m number) g.mail) from to)
      ≡ pared_contents (letters (without_first (poster_of m number) (cpu_of m number) h.mail) from to)
  taken_told xs ys a b of_g of_h rest from to same =
      by (cases_eq (poster_of m number) from) (cases_eq (cpu_of m number) to)
    where
      Same : ℕ → ℕ → Type 0
      Same q r = pared_contents (letters (without_first (poster_of m number) (cpu_of m number) g.mail) q r)
          ≡ pared_contents (letters (without_first (poster_of m number) (cpu_of m number) h.mail) q r)

      apart : (poster_of m number ≡ from → cpu_of m number ≡ to → ⊥) → Same from to
      apart other =
          ap pared_contents (letters-without_other (poster_of m number) (cpu_of m number) from to g.mail other)
          ∙ same
          ∙ sym (ap pared_contents (letters-without_other (poster_of m number) (cpu_of m number) from to h.mail other))

      by : (poster_of m number ≡ from) ⊎ (poster_of m number ≡ from → ⊥) →
          (cpu_of m number ≡ to) ⊎ (cpu_of m number ≡ to → ⊥) → Same from to
      by (inl s) (inl t) =
          subst (λ q. Same q to) s (subst (λ q. Same (poster_of m number) q) t
          (ap pared_contents (letters-without_first (poster_of m number) (cpu_of m number) g.mail a xs of_g)
          ∙ rest
          ∙ sym (ap pared_contents
          (letters-without_first (poster_of m number) (cpu_of m number) h.mail b ys of_h))))
      by (inr s) t = apart (λ e f. s e)
      by (inl s) (inr t) = apart (λ e f. t f)

  others_stay : (k : System) → (from to : ℕ) → (IsTaken m number from to → ⊥) → poster_of m number < m.cpus →
      letters (without_first (poster_of m number) (cpu_of m number) k.mail) from to ≡ letters k.mail from to
  others_stay k from to apart takes =
      letters-without_other (poster_of m number) (cpu_of m number) from to k.mail
      (λ e f. apart (takes, sym e, sym f))

  handled : poster_of m number < m.cpus → (xs ys : List Letter) (a b : Letter) →
      letters g.mail (poster_of m number) (cpu_of m number) ≡ a ∷ xs →
      letters h.mail (poster_of m number) (cpu_of m number) ≡ b ∷ ys → pared_contents xs ≡ pared_contents ys →
      (o p : Option Work) → AreWorks o p →
      AreTheSame m number g h
      (reached_by g (without_first (poster_of m number) (cpu_of m number) g.mail) o)
      (reached_by h (without_first (poster_of m number) (cpu_of m number) h.mail) p)
  handled takes xs ys a b of_g of_h rest None None both = tt
  handled takes xs ys a b of_g of_h rest (Some x) (Some y) both = record {
    own = own_known m number g h (left g) (left h) x y both _ _ at_l at_n;
    taken = λ still. told _ _ (told_of g h _ _ (same_taken takes));
    posted = λ to same. told _ _ (told_of g h _ _ same);
    none_posted = λ to apart same. none_more m number g h (left g) (left h) x y both to
        (others_stay g _ _ apart takes) (others_stay h _ _ apart takes) same;
    kept = kept m number g (left g) x (λ from to apart. others_stay g from to apart takes);
    also_kept = kept m number h (left h) y (λ from to apart. others_stay h from to apart takes);
  }
    where
      told : (from to : ℕ) → AreTold g h from to → HaveTheSame
          (done (cpu_of m number) (record g { mail = left g }) x).system
          (done (cpu_of m number) (record h { mail = left h }) y).system from to
      told from to same =
          mail_told m number g h (left g) (left h) x y both from to
          (taken_told xs ys a b of_g of_h rest from to same)
  handled takes xs ys a b of_g of_h rest None (Some y) both = absurd both
  handled takes xs ys a b of_g of_h rest (Some x) None both = absurd both

  -- The first letter of a list, handled
  abbrev first_of : System → Local → List Letter → Option System
  first_of k l ls = option_map (λ (x : Happened). x.system)
      (slice_get ls 0 >>= λ letter. option_map (done (cpu_of m number) (taken (poster_of m number) (cpu_of m number) k))
      (handle m (cpu_of m number) l letter))

  letter_same : poster_of m number < m.cpus →
      AreTheSame m number g h (after_entry m g (LetterOf (cpu_of m number) (poster_of m number)))
      (after_entry m h (LetterOf (cpu_of m number) (poster_of m number)))
  letter_same takes =
      subst (λ (o : Option System). AreTheSame m number g h o
      (after_entry m h (LetterOf (cpu_of m number) (poster_of m number)))) (sym (is g (local_at m g (cpu_of m number)) at_l))
      (subst (λ (o : Option System). AreTheSame m number g h
      (first_of g (local_at m g (cpu_of m number)) (letters g.mail (poster_of m number) (cpu_of m number))) o)
      (sym (is h (local_at m h (cpu_of m number)) at_n))
      (by (letters g.mail (poster_of m number) (cpu_of m number))
      (letters h.mail (poster_of m number) (cpu_of m number)) refl refl
      (told_of g h _ _ (same_taken takes))))
    where
      is : (k : System) (l : Local) → slice_get k.locals (cpu_of m number) ≡ Some l →
          after_entry m k (LetterOf (cpu_of m number) (poster_of m number))
          ≡ first_of k l (letters k.mail (poster_of m number) (cpu_of m number))
      is k l at = ap (λ (o : Option Local). option_map (λ (x : Happened). x.system) (o >>= λ l.
          slice_get (letters k.mail (poster_of m number) (cpu_of m number)) 0 >>= λ letter.
          option_map (done (cpu_of m number) (taken (poster_of m number) (cpu_of m number) k))
          (handle m (cpu_of m number) l letter))) at

      by : (xs ys : List Letter) → letters g.mail (poster_of m number) (cpu_of m number) ≡ xs →
          letters h.mail (poster_of m number) (cpu_of m number) ≡ ys → pared_contents xs ≡ pared_contents ys →
          AreTheSame m number g h (first_of g (local_at m g (cpu_of m number)) xs)
          (first_of h (local_at m h (cpu_of m number)) ys)
      by [] [] of_g of_h e = tt
      by (x ∷ xs) (y ∷ ys) of_g of_h e =
          let same : numberless_content x.content ≡ numberless_content y.content = cc in
          let rest : pared_contents xs ≡ pared_contents ys = cc in
          handled takes xs ys x y of_g of_h rest
          (handle m (cpu_of m number) (local_at m g (cpu_of m number)) x)
          (handle m (cpu_of m number) (local_at m h (cpu_of m number)) y)
          (handle_numbered by_times m (cpu_of m number) _ _ like x y same (λ i j. refl)
          (fits_at g _ x r.first at_l (ap (λ (ls : List Letter). slice_get ls 0) of_g))
          (fits_at h _ y r.second at_n (ap (λ (ls : List Letter). slice_get ls 0) of_h)))
      by [] (y ∷ ys) of_g of_h e = cc
      by (x ∷ xs) [] of_g of_h e = cc

  -- A turn

  turn_same : (poster_of m number < m.cpus → ⊥) →
      AreTheSame m number g h (after_entry m g (CoreOf (cpu_of m number))) (after_entry m h (CoreOf (cpu_of m number)))
  turn_same none =
      subst (λ (o : Option System). AreTheSame m number g h o (after_entry m h (CoreOf (cpu_of m number))))
      (sym (is g (local_at m g (cpu_of m number)) at_l))
      (subst (λ (o : Option System). AreTheSame m number g h
      (reached_by g g.mail (turn m (cpu_of m number) (local_at m g (cpu_of m number)))) o)
      (sym (is h (local_at m h (cpu_of m number)) at_n))
      (plain _ _ none (turn_like m (cpu_of m number) _ _ like)))
    where
      is : (k : System) (l : Local) → slice_get k.locals (cpu_of m number) ≡ Some l →
          after_entry m k (CoreOf (cpu_of m number)) ≡ reached_by k k.mail (turn m (cpu_of m number) l)
      is k l at = ap (λ (o : Option Local). option_map (λ (x : Happened). x.system)
          (o >>= λ l. option_map (done (cpu_of m number) k) (turn m (cpu_of m number) l))) at

  -- A tick to the least deadline

  abbrev ticked : System → Local → List (ℕ × ℕ) → Option System
  ticked k l es = option_map (Ticks (cpu_of m number)) (option_map (λ e. e.0) (slice_get es 0)) >>= λ e.
      option_map (λ (x : Happened). x.system) (happens m k e)

  tick_same : (poster_of m number < m.cpus → ⊥) →
      AreTheSame m number g h (after_entry m g (TickOf (cpu_of m number))) (after_entry m h (TickOf (cpu_of m number)))
  tick_same none =
      subst (λ (o : Option System). AreTheSame m number g h o (after_entry m h (TickOf (cpu_of m number))))
      (sym (is g (local_at m g (cpu_of m number)) at_l))
      (subst (λ (o : Option System). AreTheSame m number g h
      (ticked g (local_at m g (cpu_of m number)) (local_at m g (cpu_of m number)).lists.armed) o)
      (sym (is h (local_at m h (cpu_of m number)) at_n))
      (by (local_at m g (cpu_of m number)).lists.armed (local_at m h (cpu_of m number)).lists.armed
      refl refl like.armed))
    where
      is : (k : System) (l : Local) → slice_get k.locals (cpu_of m number) ≡ Some l →
          after_entry m k (TickOf (cpu_of m number)) ≡ ticked k l l.lists.armed
      is k l at = ap (λ (o : Option Local).
          option_map (Ticks (cpu_of m number)) (o >>= λ l. option_map (λ e. e.0) (slice_get l.lists.armed 0)) >>= λ e.
          option_map (λ (x : Happened). x.system) (happens m k e)) at

      event : (k : System) (l : Local) (to : ℕ) → slice_get k.locals (cpu_of m number) ≡ Some l →
          option_map (λ (x : Happened). x.system) (happens m k (Ticks (cpu_of m number) to))
          ≡ reached_by k k.mail (advance m (cpu_of m number) to l)
      event k l to at = ap (λ (o : Option Local). option_map (λ (x : Happened). x.system)
          (o >>= λ l. option_map (done (cpu_of m number) k) (advance m (cpu_of m number) to l))) at

      least : (k : System) (l : Local) (e : ℕ × ℕ) (es : List (ℕ × ℕ)) →
          slice_get k.locals (cpu_of m number) ≡ Some l → l.lists.armed ≡ e ∷ es →
          least_deadline k (cpu_of m number) ≡ Some e.0
      least k l e es at armed =
          ap (λ (o : Option Local). o >>= λ l. option_map (λ e. e.0) (slice_get l.lists.armed 0)) at
          ∙ ap (λ (es : List (ℕ × ℕ)). option_map (λ e. e.0) (slice_get es 0)) armed

      by : (xs ys : List (ℕ × ℕ)) → (local_at m g (cpu_of m number)).lists.armed ≡ xs →
          (local_at m h (cpu_of m number)).lists.armed ≡ ys →
          map (ahead (local_at m g (cpu_of m number)).clock) xs
          ≡ map (ahead (local_at m h (cpu_of m number)).clock) ys →
          AreTheSame m number g h (ticked g (local_at m g (cpu_of m number)) xs)
          (ticked h (local_at m h (cpu_of m number)) ys)
      by [] [] of_g of_h e = tt
      by (x ∷ xs) (y ∷ ys) of_g of_h e =
          let one : ahead (local_at m g (cpu_of m number)).clock x
          ≡ ahead (local_at m h (cpu_of m number)).clock y = cc in
          subst (λ (o : Option System). AreTheSame m number g h o
          (ticked h (local_at m h (cpu_of m number)) (y ∷ ys)))
          (sym (event g (local_at m g (cpu_of m number)) x.0 at_l))
          (subst (λ (o : Option System). AreTheSame m number g h
          (reached_by g g.mail (advance m (cpu_of m number) x.0 (local_at m g (cpu_of m number)))) o)
          (sym (event h (local_at m h (cpu_of m number)) y.0 at_n))
          (plain _ _ none
          (advance_like m (cpu_of m number) x.0 y.0 _ _ like (ap (λ (e : ℕ × ℕ). e.0) one)
          (r.first_early (cpu_of m number) x.0 (least g _ x xs at_l of_g))
          (r.second_early (cpu_of m number) y.0 (least h _ y ys at_n of_h)))))
      by [] (y ∷ ys) of_g of_h e = cc
      by (x ∷ xs) [] of_g of_h e = cc

  same_choice : AreTheSame m number g h (after_entry m g (choice m number)) (after_entry m h (choice m number))
  same_choice = by (nat_lt (poster_of m number) m.cpus) (poster_of m number == m.cpus) refl
    where
      by : (letter core : Bool) → nat_lt (poster_of m number) m.cpus ≡ letter →
          AreTheSame m number g h
          (after_entry m g (cond letter (LetterOf (cpu_of m number) (poster_of m number))
          (cond core (CoreOf (cpu_of m number)) (TickOf (cpu_of m number)))))
          (after_entry m h (cond letter (LetterOf (cpu_of m number) (poster_of m number))
          (cond core (CoreOf (cpu_of m number)) (TickOf (cpu_of m number)))))
      by true core is = letter_same (ltb-true (poster_of m number) m.cpus is)
      by false true is = turn_same (λ takes. omega (arith, takes, ltb-false (poster_of m number) m.cpus is))
      by false false is = tick_same (λ takes. omega (arith, takes, ltb-false (poster_of m number) m.cpus is))

  -- The same, by places

  module _ (a b : System) (d : DoAlike m number g h a b) where
    -- The part of a processor
    own_again : (cpu : ℕ) → KnowTheSame m g h cpu → KnowTheSame m a b cpu
    own_again cpu same = by (cases_eq cpu (cpu_of m number))
      where
        by : (cpu ≡ cpu_of m number) ⊎ (cpu ≡ cpu_of m number → ⊥) → KnowTheSame m a b cpu
        by (inl is) = subst (KnowTheSame m a b) (sym is) d.own
        by (inr other) = λ rest.
            ap (λ (l : Local). local_code (length m.threads) l rest) (d.kept.processors cpu other)
            ∙ same rest
            ∙ ap (λ (l : Local). local_code (length m.threads) l rest) (sym (d.also_kept.processors cpu other))

    own_stays : (cpu : ℕ) → KnowTheSame m g a cpu → KnowTheSame m h b cpu
    own_stays cpu same = by (cases_eq cpu (cpu_of m number))
      where
        by : (cpu ≡ cpu_of m number) ⊎ (cpu ≡ cpu_of m number → ⊥) → KnowTheSame m h b cpu
        by (inl is) = λ rest.
            sym (subst (KnowTheSame m g h) (sym is) same_own rest) ∙ same rest
            ∙ subst (KnowTheSame m a b) (sym is) d.own rest
        by (inr other) = λ rest.
            ap (λ (l : Local). local_code (length m.threads) l rest) (sym (d.also_kept.processors cpu other))

    -- The letters of a pair
    either : (P : Type 0) (from to : ℕ) → (IsTaken m number from to → P) →
        ((IsTaken m number from to → ⊥) → from ≡ cpu_of m number → P) →
        ((IsTaken m number from to → ⊥) → (from ≡ cpu_of m number → ⊥) → P) → P
    either P from to is own_posts others =
        by (cases_lt (poster_of m number) m.cpus) (cases_eq from (poster_of m number)) (cases_eq to (cpu_of m number))
      where
        not_taken : (IsTaken m number from to → ⊥) → P
        not_taken apart = own_or (cases_eq from (cpu_of m number))
          where
            own_or : (from ≡ cpu_of m number) ⊎ (from ≡ cpu_of m number → ⊥) → P
            own_or (inl e) = own_posts apart e
            own_or (inr e) = others apart e

        by : (poster_of m number < m.cpus) ⊎ (m.cpus ≤ poster_of m number) →
            (from ≡ poster_of m number) ⊎ (from ≡ poster_of m number → ⊥) →
            (to ≡ cpu_of m number) ⊎ (to ≡ cpu_of m number → ⊥) → P
        by (inl takes) (inl s) (inl t) = is (takes, s, t)
        by (inr none) s t = not_taken (λ i. omega (arith, i.0, none))
        by (inl takes) (inr s) t = not_taken (λ i. s i.1)
        by (inl takes) (inl s) (inr t) = not_taken (λ i. t i.2)

    -- What is so of the pair that is taken is so of this one.
    at_taken : (P : ℕ → ℕ → Type 0) (from to : ℕ) → IsTaken m number from to →
        P (poster_of m number) (cpu_of m number) → P from to
    at_taken P from to is p =
        subst (λ n. P n to) (sym is.1) (subst (λ n. P (poster_of m number) n) (sym is.2) p)

    letters_again : (from to : ℕ) → HaveTheSame g h from to → HaveTheSame a b from to
    letters_again from to same = either (HaveTheSame a b from to) from to
        (λ is. at_taken (HaveTheSame a b) from to is (d.taken is.0))
        (λ apart e. subst (λ n. HaveTheSame a b n to) (sym e)
        (d.posted to (subst (λ n. HaveTheSame g h n to) e same)))
        (λ apart other rest.
        ap (λ (ls : List Letter). chained content_code (contents ls) rest) (d.kept.pairs from to other apart)
        ∙ same rest
        ∙ ap (λ (ls : List Letter). chained content_code (contents ls) rest)
        (sym (d.also_kept.pairs from to other apart)))

    letters_stay : (from to : ℕ) → HaveTheSame g a from to → HaveTheSame h b from to
    letters_stay from to same = either (HaveTheSame h b from to) from to
        (λ is rest. sym (at_taken (HaveTheSame g h) from to is (same_taken is.0) rest) ∙ same rest
        ∙ at_taken (HaveTheSame a b) from to is (d.taken is.0) rest)
        (λ apart e. subst (λ n. HaveTheSame h b n to) (sym e)
        (d.none_posted to (λ is. apart (is.0, e ∙ is.1, is.2)) (subst (λ n. HaveTheSame g a n to) e same)))
        (λ apart other rest.
        ap (λ (ls : List Letter). chained content_code (contents ls) rest)
        (sym (d.also_kept.pairs from to other apart)))

    -- A place is that of a processor, or that of a pair.
    at_place : (p q u v : System) → ((cpu : ℕ) → KnowTheSame m p q cpu → KnowTheSame m u v cpu) →
        ((from to : ℕ) → HaveTheSame p q from to → HaveTheSame u v from to) →
        (place : ℕ) → AreSame m p q place → AreSame m u v place
    at_place p q u v locals pairs place same = by (cases_lt place m.cpus)
      where
        by : (place < m.cpus) ⊎ (m.cpus ≤ place) → AreSame m u v place
        by (inl own) = λ rest.
            ap (λ (f : List ℕ → List ℕ). f rest) (own_code m u place own)
            ∙ locals place (λ rest. ap (λ (f : List ℕ → List ℕ). f rest) (sym (own_code m p place own)) ∙ same rest
            ∙ ap (λ (f : List ℕ → List ℕ). f rest) (own_code m q place own)) rest
            ∙ ap (λ (f : List ℕ → List ℕ). f rest) (sym (own_code m v place own))
        by (inr past) = λ rest.
            ap (λ (f : List ℕ → List ℕ). f rest) (pair_code m u place past)
            ∙ pairs (poster_at m place) (receiver_at m place)
            (λ rest. ap (λ (f : List ℕ → List ℕ). f rest) (sym (pair_code m p place past)) ∙ same rest
            ∙ ap (λ (f : List ℕ → List ℕ). f rest) (pair_code m q place past)) rest
            ∙ ap (λ (f : List ℕ → List ℕ). f rest) (sym (pair_code m v place past))

    do_same : specs.DoTheSame m g h a b
    do_same = record {
      again = λ place inside. at_place g h a b own_again letters_again place;
      stay = λ place inside. at_place g a h b own_stays letters_stay place;
    }

  by_places : (o p : Option System) → AreTheSame m number g h o p → specs.AreTheSame m g h o p
  by_places None None same = tt
  by_places (Some a) (Some b) same = do_same a b same
  by_places None (Some b) same = absurd same
  by_places (Some a) None same = absurd same

pub are_remembered : (m : Machine) → IsMachine m → AreRemembered m
are_remembered m machine g h number own reads =
    by_places m machine number g h own reads _ _ (same_choice m machine number g h own reads)
