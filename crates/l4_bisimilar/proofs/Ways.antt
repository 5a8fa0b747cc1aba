-- Ways in which states are alike: what counts of sends, clocks and deadlines are taken for.
use Rattle.std.proofs.Common.{◌≡◌, ℕ, ◌+◌, Bool, Option, Some, None, List, [], ◌∷◌, map, refl, sym, ◌∙◌}
use Rattle.std.proofs.lemmas.List.{map-id}
use Rattle.std.specs.Option.{option_map}
use Rattle.l4_model.specs.Words.{GlobalId, Period}
use Rattle.l4_model.specs.World.{Message, Name, Owed, Phase, Ready, Sending, Receiving, Ordering, Ended, Deleted, Send, Thread}
use Rattle.l4_model.specs.Steps.{Step, Begin, Queue, Deliver, Retarget}
use Rattle.l4_core_model.specs.Plain as plain
use Rattle.l4_core_model.specs.Letters.{Cause, Content, DoneLetter, Letter, Refusal, Result, RetargetLetter, SendLetter, WithdrawLetter, refusal_step}
use Rattle.l4_core_model.specs.Local.{Local, armed_for}

-- A name of a send, and an owed retarget, whose number is taken for another
abbrev pub counted_name : (count : ℕ → ℕ) → Name → Name
counted_name count s = record s { k = count s.k }

abbrev pub counted_owed : (count : ℕ → ℕ) → Owed → Owed
counted_owed count o = record o { send = counted_name count o.send }

-- What a name of a send is put into does not depend on its number but for what that is taken for.
abbrev pub Renames : {A : Type 0} → (count : ℕ → ℕ) → (Name → A) → Type 0
Renames count f = (s t : Name) → counted_name count s ≡ counted_name count t → f s ≡ f t

-- A way of being alike, and all that it has to keep: what follows from it is proved once.
pub record Way : Type 0 where
  -- what a count of sends, a time, and a deadline where the clock is this are taken for
  pub count : ℕ → ℕ
  pub time : ℕ → ℕ
  pub ahead : (clock : ℕ) → ℕ × ℕ → ℕ × ℕ
  -- what a step and a letter are taken for
  pub step : Step → Step
  pub content : Content → Content
  -- one more send, a deadline that is armed, and what is due
  pub counted : (a b : ℕ) → count a ≡ count b → count (a + 1) ≡ count (b + 1)
  pub armed : (period : Period) (now then i : ℕ) (xs ys : List (ℕ × ℕ)) → time now ≡ time then →
      map (ahead now) xs ≡ map (ahead then) ys →
      map (ahead now) (armed_for period now i (plain.without_block i xs))
      ≡ map (ahead then) (armed_for period then i (plain.without_block i ys))
  pub due : (now then : ℕ) (xs ys : List (ℕ × ℕ)) → time now ≡ time then →
      map (ahead now) xs ≡ map (ahead then) ys → plain.due_block now xs ≡ plain.due_block then ys
  -- steps and letters that name a send
  pub begins : Renames count (λ s. step (Begin s))
  pub queues : Renames count (λ s. step (Queue s))
  pub refuses : (refusal : Refusal) → Renames count (λ s. step (refusal_step refusal s))
  pub delivers : (receiver shown actual : GlobalId) (tag : ℕ) (words : List ℕ) →
      Renames count (λ s. step (Deliver s receiver shown actual tag words))
  pub retargets : Renames count (λ s. step (Retarget s))
  pub sends : (receiver : GlobalId) (message : Message) (zero_timeout : Bool) →
      Renames count (λ s. content (SendLetter s receiver message zero_timeout))
  pub ends : (result : Result) → Renames count (λ s. content (DoneLetter s result))
  pub withdraws : (receiver : GlobalId) (cause : Cause) →
      Renames count (λ s. content (WithdrawLetter s receiver cause))
  pub owes : (o p : Owed) → counted_owed count o ≡ counted_owed count p →
      content (RetargetLetter o) ≡ content (RetargetLetter p)

-- Threads, and what a processor knows, as a way takes them

abbrev pub timed_phase : (time : ℕ → ℕ) → Phase → Phase
timed_phase time Ready = Ready
timed_phase time Sending = Sending
timed_phase time (Receiving receive since) = Receiving receive (time since)
timed_phase time Ordering = Ordering
timed_phase time Ended = Ended
timed_phase time Deleted = Deleted

abbrev pub timed_send : (time : ℕ → ℕ) → Send → Send
timed_send time s = record s { since = time s.since }

abbrev pub bare_thread : Way → Thread → Thread
bare_thread w t = record t {
  context = record t.context { begun = w.count t.context.begun };
  phase = timed_phase w.time t.phase;
  send = option_map (timed_send w.time) t.send;
}

abbrev pub bare_local : Way → Local → Local
bare_local w l = record l {
  threads = map (bare_thread w) l.threads;
  lists = record l.lists { armed = map (w.ahead l.clock) l.lists.armed };
  owed = map (option_map (counted_owed w.count)) l.owed;
  clock = w.time l.clock;
  stamp = 0;
}

abbrev pub bare_letter : Way → ℕ × Letter → ℕ × Letter
bare_letter w p = (p.0, record { stamp = 0; content = w.content p.1.content })

-- Where times are taken for themselves phases are too.
pub timed_as_is : (p : Phase) → timed_phase (λ n. n) p ≡ p
timed_as_is Ready = refl
timed_as_is Sending = refl
timed_as_is (Receiving receive since) = refl
timed_as_is Ordering = refl
timed_as_is Ended = refl
timed_as_is Deleted = refl

pub same_map : {A B : Type 0} (f g : A → B) → ((x : A) → f x ≡ g x) → (xs : List A) → map f xs ≡ map g xs
same_map f g e [] = refl
same_map f g e (x ∷ xs) = λ j. e x j ∷ same_map f g e xs j

pub sent_as_is : (o : Option Send) → option_map (timed_send (λ n. n)) o ≡ o
sent_as_is None = refl
sent_as_is (Some send) = refl

-- Where deadlines are too

pub armed_as_is : (period : Period) (now then i : ℕ) (xs ys : List (ℕ × ℕ)) → now ≡ then →
    map (λ e. e) xs ≡ map (λ e. e) ys →
    map (λ e. e) (armed_for period now i (plain.without_block i xs))
    ≡ map (λ e. e) (armed_for period then i (plain.without_block i ys))
armed_as_is period now then i xs ys e same =
    let both = sym (map-id xs) ∙ same ∙ map-id ys in
    λ j. map (λ e. e) (armed_for period (e j) i (plain.without_block i (both j)))

pub due_as_is : (now then : ℕ) (xs ys : List (ℕ × ℕ)) → now ≡ then → map (λ e. e) xs ≡ map (λ e. e) ys →
    plain.due_block now xs ≡ plain.due_block then ys
due_as_is now then xs ys e same = λ j. plain.due_block (e j) ((sym (map-id xs) ∙ same ∙ map-id ys) j)
