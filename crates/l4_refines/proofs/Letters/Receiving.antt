-- A processor handles the first letter that another one posted to it.
use Rattle.l4_refines.proofs.Sends.Free.{first_free}
use Rattle.std.proofs.Common.{◌≡◌, ℕ, ◌<◌, Bool, true, false, cond, Some, None, [], ◌∷◌, filter, length, refl, ap, sym, ◌∙◌, subst}
use Rattle.std.specs.Prelude.{◌==◌, is_some, is_none, not}
use Rattle.std.proofs.lemmas.Bool.{eqb-true}
use Rattle.std.proofs.lemmas.List.{append-nil}
use Rattle.l4_model.specs.Words.{GlobalId, same_id}
use Rattle.l4_model.specs.Machine.{Machine, place_of, is_declared}
use Rattle.l4_model.specs.World.{World, Message, Name}
use Rattle.l4_model.proofs.Chains.{bind_then, guard_then, some_is}
use Rattle.l4_core_model.specs.Letters.{Result, Content, SendLetter, DoneLetter, WithdrawLetter, GoneLetter, OrderLetter, OrderDoneLetter, RetargetLetter, Letter}
use Rattle.l4_core_model.specs.Local.{is_own, thread}
use Rattle.l4_core_model.specs.Acts.{Work, split_place}
use Rattle.l4_core_model.specs.Turns.{opened}
use Rattle.l4_core_model.specs.Mail.{own_place, foreign_place, handled}
use Rattle.l4_core_model.specs.Runs.{without_first, IsMachine}
use Rattle.l4_core_model.proofs.Standing.{place_within}
use Rattle.l4_core_model.proofs.Apart.{apart}
use Rattle.l4_refines.proofs.Relation.Views.{Scene, kept, view, home, put, amid, subject, is_locator, notices, is_about, locators}
use Rattle.l4_refines.proofs.Relation.Rows.{Matches}
use Rattle.l4_refines.proofs.Relation.Relates.{RelatesExcept, beside}
use Rattle.l4_refines.proofs.Relation.Owing.{retarget_in}
use Rattle.l4_refines.proofs.Frames.Places.{first_about, leaves_out}
use Rattle.l4_refines.proofs.Frames.Mail.{IsFirstLetter, letter_taken, other_taken, taken_here}
use Rattle.l4_refines.proofs.Frames.Going.{Goes, IsReached, opened_relates}
use Rattle.l4_refines.proofs.Sends.Coming.{IsTakenOut, done_relates, send_goes}

-- The scene after a letter was taken out
abbrev pub without : (from cpu : ℕ) → Scene → Scene
without from cpu s = record s { mail = without_first from cpu s.mail }

-- A letter under way, at a processor of the machine
pub record IsLetter (m : Machine) (from cpu : ℕ) (letter : Letter) (s : Scene) (w : World) : Type 0 where
  pub machine : IsMachine m
  pub processor : cpu < m.cpus
  pub starts : IsReached m w
  pub relates : RelatesExcept m (Matches m) [] s w
  pub first : IsFirstLetter from cpu letter s.mail

abbrev pub at_work : (cpu : ℕ) → Letter → Scene → Work
at_work cpu letter s = opened letter.stamp (s.locals cpu)

-- Its thread is of this processor, or of another.

pub own_place_is : (m : Machine) (cpu : ℕ) (id : GlobalId) (i : ℕ) → own_place m cpu id ≡ Some i → (place_of m id ≡ Some i) × (home m i ≡ cpu)
own_place_is m cpu id i h =
    bind_then (place_of m id) _ i h λ j at rest.
    guard_then (is_own m cpu j) _ i rest λ own rest.
    let same = some_is j i rest in (at ∙ ap Some same, sym (ap (home m) same) ∙ eqb-true (home m j) cpu own)

pub foreign_place_is : (m : Machine) (cpu : ℕ) (id : GlobalId) (i : ℕ) → foreign_place m cpu id ≡ Some i → (place_of m id ≡ Some i) × (home m i ≡ cpu → ⊥)
foreign_place_is m cpu id i h =
    bind_then (place_of m id) _ i h λ j at rest.
    guard_then (not (is_own m cpu j)) _ i rest λ other rest.
    let same = some_is j i rest in (at ∙ ap Some same, λ e. away j (home m j == cpu) refl other (ap (home m) same ∙ e))
  where
    away : (j : ℕ) (b : Bool) → (home m j == cpu) ≡ b → not b ≡ true → home m j ≡ cpu → ⊥
    away j true is h e = cc
    away j false is h e = apart (home m j) cpu is e

-- Of the thread that it is about, all but the letter is as it was.

pub kept_opened : (cpu stamp i : ℕ) (s : Scene) (c : ℕ) → kept (put cpu (opened stamp (s.locals cpu)).local s.locals c) i ≡ kept (s.locals c) i
kept_opened cpu stamp i s c = by (cpu == c) refl
  where
    by : (b : Bool) → (cpu == c) ≡ b → kept (cond b (opened stamp (s.locals cpu)).local (s.locals c)) i ≡ kept (s.locals c) i
    by true is = ap (λ p. kept (s.locals p) i) (eqb-true cpu c is)
    by false is = refl

pub taken_out : (m : Machine) (from cpu i : ℕ) (letter : Letter) (s : Scene) (w : World) → IsLetter m from cpu letter s w → i < length m.threads →
    place_of m (subject letter.content) ≡ Some i → is_locator letter.content ≡ true →
    IsTakenOut m i (view m s w i) (view m (amid cpu (without from cpu s) (at_work cpu letter s)) w i) (record { from = from; to = cpu; letter = letter })
taken_out m from cpu i letter s w h lt about says =
    let matches = h.relates.places i lt tt in
    let t = taken_here m from cpu i letter s.mail (view m s w i) _ about says h.first matches.known.row in
    let nil = append-nil (without_first from cpu s.mail) in
    record {
      matches = matches;
      was = t.was;
      quiet = ap (λ mail. locators (filter (is_about m i) mail)) nil ∙ t.none_left;
      notices = ap (λ mail. notices (filter (is_about m i) mail)) nil ∙ t.others;
      kept = λ d c. kept_opened cpu letter.stamp i s c d;
      world = refl;
    }

-- A locator is of no retarget.
no_retarget : (c : Content) → is_locator c ≡ true → retarget_in c ≡ None
no_retarget (SendLetter s receiver message zero_timeout) h = refl
no_retarget (DoneLetter s result) h = refl
no_retarget (WithdrawLetter s receiver cause) h = refl
no_retarget (GoneLetter id) h = refl
no_retarget (OrderLetter caller target what) h = refl
no_retarget (OrderDoneLetter caller) h = refl
no_retarget (RetargetLetter o) h = cc

-- Its thread is left out once the letter was taken out; all others are related as before.
pub taken_relates : (m : Machine) (from cpu i : ℕ) (letter : Letter) (s : Scene) (w : World) → IsLetter m from cpu letter s w →
    place_of m (subject letter.content) ≡ Some i → is_locator letter.content ≡ true →
    RelatesExcept m (Matches m) (i ∷ []) (amid cpu (without from cpu s) (at_work cpu letter s)) w
taken_relates m from cpu i letter s w h about says =
    opened_relates m cpu letter.stamp (i ∷ []) (without from cpu s) w
    (letter_taken m from cpu i letter (i ∷ []) s w w.owed about (first_about i []) h.first
    (other_taken m (beside s) from cpu letter s.mail w.owed h.first (no_retarget letter.content says) h.relates.owing) (leaves_out m i [] s w h.relates))

-- A send

pub handles_send : (m : Machine) (from cpu : ℕ) (letter : Letter) (s : Scene) (w : World) (x : Work) (name : Name) (receiver : GlobalId) (message : Message)
    (zero_timeout : Bool) → IsLetter m from cpu letter s w → letter.content ≡ SendLetter name receiver message zero_timeout →
    handled m cpu (SendLetter name receiver message zero_timeout) (at_work cpu letter s) ≡ Some x → Goes m cpu (without from cpu s) w [] x
handles_send m from cpu letter s w x name receiver message zero_timeout h content is =
    let y : Work = at_work cpu letter s in
    bind_then (own_place m cpu receiver) _ x is λ r own rest.
    bind_then (foreign_place m cpu name.thread) _ x rest λ i foreign rest.
    guard_then (is_none (thread y.local i).send) _ x rest λ none rest.
    guard_then (same_id message.actual name.thread) _ x rest λ actual rest.
    guard_then (is_declared m message.shown) _ x rest λ shown rest.
    let at_r = own_place_is m cpu receiver r own in
    let at_i = foreign_place_is m cpu name.thread i foreign in
    let lt = place_within m name.thread i at_i.0 in
    let about : place_of m (subject letter.content) ≡ Some i = ap (λ c. place_of m (subject c)) content ∙ at_i.0 in
    let rel = taken_relates m from cpu i letter s w h about (ap is_locator content) in
    let t = taken_out m from cpu i letter s w h lt about (ap is_locator content) in
    subst (Goes m cpu (without from cpu s) w []) (some_is _ x rest)
    (send_goes m cpu i r (without from cpu s) w y (view m s w i) (record { from = from; to = cpu; letter = letter }) name receiver message zero_timeout
    (record { machine = h.machine; processor = h.processor; within = lt; away = at_i.1 }) refl content
    (record { starts = h.starts; now = w; reaches = refl; relates = rel }) t at_r.0 (place_within m receiver r at_r.0)
    (λ to at home_i home_r. first_free m (beside s) from cpu i r letter name receiver message zero_timeout to s.mail w.owed content at_i.0
    (h.machine.placed i lt) at home_i home_r (λ same. at_i.1 (sym same ∙ home_r)) h.first h.relates.owing))

-- A decision

pub handles_done : (m : Machine) (from cpu : ℕ) (letter : Letter) (s : Scene) (w : World) (x : Work) (name : Name) (result : Result) →
    IsLetter m from cpu letter s w → letter.content ≡ DoneLetter name result →
    handled m cpu (DoneLetter name result) (at_work cpu letter s) ≡ Some x → Goes m cpu (without from cpu s) w [] x
handles_done m from cpu letter s w x name result h content is =
    let y : Work = at_work cpu letter s in
    bind_then (own_place m cpu name.thread) _ x is λ i own rest.
    guard_then (is_some (split_place m cpu y.local i)) _ x rest λ split rest.
    guard_then ((thread y.local i).context.begun == name.k) _ x rest λ number rest.
    let at = own_place_is m cpu name.thread i own in
    let lt = place_within m name.thread i at.0 in
    let about : place_of m (subject letter.content) ≡ Some i = ap (λ c. place_of m (subject c)) content ∙ at.0 in
    let rel = taken_relates m from cpu i letter s w h about (ap is_locator content) in
    let t = taken_out m from cpu i letter s w h lt about (ap is_locator content) in
    subst (Goes m cpu (without from cpu s) w []) (some_is _ x rest)
    (record {
      starts = h.starts;
      now = w;
      reaches = refl;
      relates = done_relates m cpu i (without from cpu s) w y (view m s w i) (record { from = from; to = cpu; letter = letter }) name result
          (record { machine = h.machine; within = lt; home = at.1 }) content t rel;
    })
