-- What happens in two states that are alike in some way.
use Rattle.std.proofs.Common.{◌≡◌, ℕ, ◌⊎◌, inl, inr, Option, Some, None, List, [], ◌∷◌, map, refl, ap, sym, ◌∙◌}
use Rattle.std.specs.Prelude.{slice_get}
use Rattle.std.specs.Option.{option_map}
use Rattle.std.proofs.lemmas.Bool.{cases_eq}
use Rattle.std.proofs.lemmas.Option.{slice_get-map}
use Rattle.l4_model.specs.Machine.{Machine}
use Rattle.l4_model.specs.World.{changed}
use Rattle.l4_model.specs.Conditions.{◌>>=◌}
use Rattle.l4_model.proofs.Chains.{map-changed, some_is}
use Rattle.l4_core_model.specs.Letters.{Content, Letter}
use Rattle.l4_core_model.specs.Local.{Local}
use Rattle.l4_core_model.specs.Acts.{Work}
use Rattle.l4_core_model.specs.Mail.{handle}
use Rattle.l4_core_model.specs.Runs.{Happened, Handles, System, done, happens, letters, taken, without_first}
use Rattle.l4_merge.proofs.Mail.{letters-without_first, letters-without_other}
use Rattle.l4_bisimilar.proofs.Ways.{Way, bare_local}
use Rattle.l4_bisimilar.proofs.Works.{AreLike, AreWorks, IsLike, are_like, bare_same}
use Rattle.l4_bisimilar.proofs.Mail.{done_mail, told_in}

-- The processors are read the same, and of each pair letters that tell the same are under way.
pub record AreRead (read : Local → Local) (content : Content → Content) (g h : System) : Type 0 where
  pub locals : map read g.locals ≡ map read h.locals
  pub mail : (from to : ℕ) → told_in content (letters g.mail from to) ≡ told_in content (letters h.mail from to)

pub record HappenLike (w : Way) (read : Local → Local) (a b : Happened) : Type 0 where
  pub cpu : a.event.cpu ≡ b.event.cpu
  pub steps : map w.step a.event.steps ≡ map w.step b.event.steps
  pub system : AreRead read w.content a.system b.system

-- Either both can happen, alike, or neither can.
abbrev pub AreEvents : Way → (read : Local → Local) → Option Happened → Option Happened → Type 0
AreEvents w read None None = Unit {0}
AreEvents w read (Some a) (Some b) = HappenLike w read a b
AreEvents w read None (Some b) = ⊥
AreEvents w read (Some a) None = ⊥

module _ (w : Way) (read : Local → Local) (reads : (l : Local) → bare_local w l ≡ read l) where
  abbrev Alike : System → System → Type 0
  Alike g h = AreRead read w.content g h

  abbrev told : List Letter → List Content
  told = told_in w.content

  pub are_read : (l k : Local) → read l ≡ read k → IsLike w l k
  are_read l k e = are_like w l k (reads l ∙ e ∙ sym (reads k))

  pub same_local : (g h : System) (cpu : ℕ) → Alike g h →
      option_map read (slice_get g.locals cpu) ≡ option_map read (slice_get h.locals cpu)
  same_local g h cpu p =
      sym (slice_get-map read g.locals cpu) ∙ ap (λ (ls : List Local). slice_get ls cpu) p.locals
      ∙ slice_get-map read h.locals cpu

  -- An event is done.

  done_like : (cpu : ℕ) (g h : System) (x y : Work) → Alike g h → AreLike w x y →
      HappenLike w read (done cpu g x) (done cpu h y)
  done_like cpu g h x y p like = record {
    cpu = refl;
    steps = like.steps;
    system = record {
      locals =
          map-changed read (λ l. x.local) (λ l. read x.local) (λ l. refl) g.locals cpu
          ∙ (λ j. changed (λ l. same j) (p.locals j) cpu)
          ∙ sym (map-changed read (λ l. y.local) (λ l. read y.local) (λ l. refl) h.locals cpu);
      mail = λ from to. done_mail w cpu from to g.mail h.mail x.letters y.letters (p.mail from to) like.letters;
    };
  }
    where
      same : read x.local ≡ read y.local
      same = sym (reads x.local) ∙ bare_same w x.local y.local like.local ∙ reads y.local

  done_both : (cpu : ℕ) (g h : System) (a b : Option Work) → Alike g h → AreWorks w a b →
      AreEvents w read (option_map (done cpu g) a) (option_map (done cpu h) b)
  done_both cpu g h None None p like = tt
  done_both cpu g h (Some x) (Some y) p like = done_like cpu g h x y p like
  done_both cpu g h None (Some y) p like = absurd like
  done_both cpu g h (Some x) None p like = absurd like

  -- One processor does something in both.

  with_local : (o p : Option Local) (j k : Local → Option Happened) → option_map read o ≡ option_map read p →
      ((l n : Local) → o ≡ Some l → p ≡ Some n → IsLike w l n → AreEvents w read (j l) (k n)) →
      AreEvents w read (o >>= j) (p >>= k)
  with_local None None j k e then = tt
  with_local (Some l) (Some n) j k e then = then l n refl refl (are_read l n (some_is (read l) (read n) e))
  with_local None (Some n) j k e then = cc
  with_local (Some l) None j k e then = cc

  pub each_like : (g h : System) (cpu : ℕ) (f k : Local → Option Work) → Alike g h →
      ((l n : Local) → slice_get g.locals cpu ≡ Some l → slice_get h.locals cpu ≡ Some n → IsLike w l n →
      AreWorks w (f l) (k n)) →
      AreEvents w read (slice_get g.locals cpu >>= λ l. option_map (done cpu g) (f l))
      (slice_get h.locals cpu >>= λ l. option_map (done cpu h) (k l))
  each_like g h cpu f k p does =
      with_local (slice_get g.locals cpu) (slice_get h.locals cpu) _ _ (same_local g h cpu p)
      λ l n at_l at_n like. done_both cpu g h (f l) (k n) p (does l n at_l at_n like)

  -- A letter is taken of both.

  taken_like : (from cpu : ℕ) (g h : System) (a b : Letter) (xs ys : List Letter) → Alike g h →
      letters g.mail from cpu ≡ a ∷ xs → letters h.mail from cpu ≡ b ∷ ys → told xs ≡ told ys →
      Alike (taken from cpu g) (taken from cpu h)
  taken_like from cpu g h a b xs ys p ga hb rest =
      record { locals = p.locals; mail = λ q r. by q r (cases_eq from q) (cases_eq cpu r) }
    where
      Same : ℕ → ℕ → Type 0
      Same q r = told (letters (without_first from cpu g.mail) q r) ≡ told (letters (without_first from cpu h.mail) q r)

      other : (q r : ℕ) → (from ≡ q → cpu ≡ r → ⊥) → Same q r
      other q r apart =
          ap told (letters-without_other from cpu q r g.mail apart) ∙ p.mail q r
          ∙ sym (ap told (letters-without_other from cpu q r h.mail apart))

      by : (q r : ℕ) → (from ≡ q) ⊎ (from ≡ q → ⊥) → (cpu ≡ r) ⊎ (cpu ≡ r → ⊥) → Same q r
      by q r (inl s) (inl t) =
          rw (← s, ← t) (ap told (letters-without_first from cpu g.mail a xs ga) ∙ rest
          ∙ sym (ap told (letters-without_first from cpu h.mail b ys hb)))
      by q r (inr s) t = other q r (λ e f. s e)
      by q r (inl s) (inr t) = other q r (λ e f. t f)

  pub handles_like : (m : Machine) (g h : System) (cpu from : ℕ) → Alike g h →
      ((l n : Local) (a b : Letter) → slice_get g.locals cpu ≡ Some l → slice_get h.locals cpu ≡ Some n →
      slice_get (letters g.mail from cpu) 0 ≡ Some a → slice_get (letters h.mail from cpu) 0 ≡ Some b →
      w.content a.content ≡ w.content b.content → IsLike w l n → AreWorks w (handle m cpu l a) (handle m cpu n b)) →
      AreEvents w read (happens m g (Handles cpu from)) (happens m h (Handles cpu from))
  handles_like m g h cpu from p does =
      with_local (slice_get g.locals cpu) (slice_get h.locals cpu) _ _ (same_local g h cpu p)
      λ l n at_l at_n like. by l n at_l at_n like (letters g.mail from cpu) (letters h.mail from cpu) refl refl
      (p.mail from cpu)
    where
      first : System → Local → List Letter → Option Happened
      first g l ls =
          slice_get ls 0 >>= λ letter. option_map (done cpu (taken from cpu g)) (handle m cpu l letter)

      by : (l n : Local) → slice_get g.locals cpu ≡ Some l → slice_get h.locals cpu ≡ Some n → IsLike w l n →
          (ls ns : List Letter) → letters g.mail from cpu ≡ ls → letters h.mail from cpu ≡ ns →
          told ls ≡ told ns → AreEvents w read (first g l ls) (first h n ns)
      by l n at_l at_n like [] [] s t c = tt
      by l n at_l at_n like (a ∷ xs) (b ∷ ys) s t c =
          let same : w.content a.content ≡ w.content b.content = cc in
          let rest : told xs ≡ told ys = cc in
          done_both cpu (taken from cpu g) (taken from cpu h) (handle m cpu l a) (handle m cpu n b)
          (taken_like from cpu g h a b xs ys p s t rest)
          (does l n a b at_l at_n (ap (λ (ls : List Letter). slice_get ls 0) s)
          (ap (λ (ls : List Letter). slice_get ls 0) t) same like)
      by l n at_l at_n like [] (b ∷ ys) s t c = cc
      by l n at_l at_n like (a ∷ xs) [] s t c = cc
