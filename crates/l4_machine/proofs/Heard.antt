-- The world has the threads as their processors will have them once the letters under way are handled.
use Rattle.std.proofs.Common.{◌≡◌, ℕ, zero, suc, ◌+◌, ◌<◌, Bool, true, false, cond, Option, None, Some, List, [], ◌∷◌, ◌++◌, length, map, filter, refl, ap, ap₂, sym, ◌∙◌, subst, arith, inl, inr}
use Rattle.std.specs.Prelude.{◌==◌, slice_get, slice_index_or}
use Rattle.std.specs.List.{AllByRecursion, flat_map}
use Rattle.std.specs.Option.{option_map}
use Rattle.std.proofs.lemmas.Option.{get_or_from_slice_get, slice_get-get_or, slice_get-map}
use Rattle.std.proofs.lemmas.Bool.{eqb-true}
use Rattle.l4_model.specs.Words.{GlobalId}
use Rattle.l4_model.specs.Machine.{Machine, is_place, place_of}
use Rattle.l4_model.specs.World.{Thread, World, opening_thread}
use Rattle.l4_model.specs.Conditions.{◌>>=◌, ◌>>◌}
use Rattle.l4_model.specs.History.{reached, report_of, state_of}
use Rattle.l4_model.proofs.Chains.{some_is}
use Rattle.l4_core_model.specs.Laws.{IsCoreRun}
use Rattle.l4_core_model.specs.Letters.{Content, SendLetter, DoneLetter, WithdrawLetter, GoneLetter, OrderLetter, OrderDoneLetter, RetargetLetter, Letter}
use Rattle.l4_core_model.specs.Local.{Local, declared, is_own, thread}
use Rattle.l4_core_model.specs.Mail.{own_place}
use Rattle.l4_core_model.specs.Runs.{Run, System, Posted, IsMachine, is_between, letters, told}
use Rattle.l4_core_model.proofs.Changed.{same_nat}
use Rattle.l4_refines.specs.Laws.{IsUndeleted, home_thread, is_deleted_state, thread_of}
use Rattle.l4_refines.proofs.Law.{run_facts}
use Rattle.l4_refines.proofs.Relation.Rows.{Agrees, IsDecided, IsObeyed, Row, RowOf, learned, learns, seats, Seats}
use Rattle.l4_refines.proofs.Relation.Relates.{Relates}
use Rattle.l4_refines.proofs.Relation.Views.{home, is_about, is_locator, kept, locators, nowhere, scene, subject, view}
use Rattle.l4_machine.proofs.Alike.{IsAlike, agreeing_alike, all_at, same_alike, told_by_alike}
use Rattle.l4_refines.proofs.Alone.{all_together}
use Rattle.l4_core.specs.Processor.{Processor}
use Rattle.l4_replay.specs.Stations.{Station}
use Rattle.l4_replay.specs.UnderWay.{IsStation, IsSystem, letters_at}
use Rattle.l4_replay.specs.Inner.Heard.{AreOfWorld, HaveRegisters, IsToldBy, answered, answers, heard_in, hears, hears_at, hears_all, hears_mail, hears_all_mail, with_thread}
use Rattle.l4_replay.specs.Inner.Homes.{reports_of}

-- One letter

abbrev pub is_answer : Processor → ℕ → Letter → Bool
is_answer p i x = is_place (answers p.machine p.cpu x.content) i

hears_other : (p : Processor) (i : ℕ) (x : Letter) (t : ℕ → Thread) → is_answer p i x ≡ false → hears p x t i ≡ t i
hears_other p i x t no_answer = by (answers p.machine p.cpu x.content) no_answer
  where
    by : (o : Option ℕ) → is_place o i ≡ false → hears_at o p x.content t i ≡ t i
    by None is = refl
    by (Some j) is = rw is refl

pub hears_answer : (p : Processor) (i : ℕ) (x : Letter) (t : ℕ → Thread) → is_answer p i x ≡ true →
    hears p x t i ≡ answered x.content p.local.clock (thread p.local i)
hears_answer p i x t yes_answer = by (answers p.machine p.cpu x.content) yes_answer
  where
    by : (o : Option ℕ) → is_place o i ≡ true →
        hears_at o p x.content t i ≡ answered x.content p.local.clock (thread p.local i)
    by None is = cc
    by (Some j) is = let same : j ≡ i = eqb-true j i is in rw (is, same) refl

-- Letters in a row: what each that answers the thread makes of it is the same, so the order does not count.

abbrev pub Makes : Processor → ℕ → Thread → Letter → Type 0
Makes p i made x = is_answer p i x ≡ true → answered x.content p.local.clock (thread p.local i) ≡ made

abbrev pub any_answers : Processor → ℕ → List Letter → Bool
any_answers p i [] = false
any_answers p i (x ∷ xs) = cond (is_answer p i x) true (any_answers p i xs)

stays_made : (p : Processor) (i : ℕ) (made : Thread) (xs : List Letter) (t : ℕ → Thread) →
    AllByRecursion (Makes p i made) xs → t i ≡ made → hears_all p xs t i ≡ made
stays_made p i made [] t all is = is
stays_made p i made (x ∷ xs) t all is = stays_made p i made xs (hears p x t) all.1 (by (is_answer p i x) refl)
  where
    by : (b : Bool) → is_answer p i x ≡ b → hears p x t i ≡ made
    by true yes_answer = hears_answer p i x t yes_answer ∙ all.0 yes_answer
    by false no_answer = hears_other p i x t no_answer ∙ is

pub is_made : (p : Processor) (i : ℕ) (made : Thread) (xs : List Letter) (t : ℕ → Thread) →
    AllByRecursion (Makes p i made) xs → any_answers p i xs ≡ true → hears_all p xs t i ≡ made
is_made p i made [] t all some = cc
is_made p i made (x ∷ xs) t all some =
    by (is_answer p i x) refl some (λ some. is_made p i made xs (hears p x t) all.1 some)
  where
    by : (b : Bool) → is_answer p i x ≡ b → cond b true (any_answers p i xs) ≡ true →
        (any_answers p i xs ≡ true → hears_all p xs (hears p x t) i ≡ made) → hears_all p xs (hears p x t) i ≡ made
    by true yes_answer some rest = stays_made p i made xs (hears p x t) all.1 (hears_answer p i x t yes_answer
        ∙ all.0 yes_answer)
    by false no_answer some rest = rest some

stays : (p : Processor) (i : ℕ) (xs : List Letter) (t : ℕ → Thread) → any_answers p i xs ≡ false →
    hears_all p xs t i ≡ t i
stays p i [] t none = refl
stays p i (x ∷ xs) t none = by (is_answer p i x) refl none (λ none. stays p i xs (hears p x t) none)
  where
    by : (b : Bool) → is_answer p i x ≡ b → cond b true (any_answers p i xs) ≡ false →
        (any_answers p i xs ≡ false → hears_all p xs (hears p x t) i ≡ hears p x t i) →
        hears_all p xs (hears p x t) i ≡ t i
    by true yes_answer none rest = cc
    by false no_answer none rest = rest none ∙ hears_other p i x t no_answer

-- Letters in several rows

all_append : {A : Type 0} (P : A → Type 0) (xs ys : List A) → AllByRecursion P xs → AllByRecursion P ys →
    AllByRecursion P (xs ++ ys)
all_append P [] ys these those = those
all_append P (x ∷ xs) ys these those = (these.0, all_append P xs ys these.1 those)

abbrev same_row : List Letter → List Letter
same_row xs = xs

all_rows : (P : Letter → Type 0) (rows : List (List Letter)) →
    ((k : ℕ) → AllByRecursion P (slice_index_or rows k [])) → AllByRecursion P (flat_map same_row rows)
all_rows P [] each = tt
all_rows P (row ∷ rows) each = all_append P row (flat_map same_row rows) (each 0) (all_rows P rows (λ k. each (suc k)))

any_first : (p : Processor) (i : ℕ) (xs ys : List Letter) → any_answers p i xs ≡ true →
    any_answers p i (xs ++ ys) ≡ true
any_first p i [] ys some = cc
any_first p i (x ∷ xs) ys some = by (is_answer p i x) some (λ some. any_first p i xs ys some)
  where
    by : (b : Bool) → cond b true (any_answers p i xs) ≡ true →
        (any_answers p i xs ≡ true → any_answers p i (xs ++ ys) ≡ true) →
        cond b true (any_answers p i (xs ++ ys)) ≡ true
    by true some rest = refl
    by false some rest = rest some

any_later : (p : Processor) (i : ℕ) (xs ys : List Letter) → any_answers p i ys ≡ true →
    any_answers p i (xs ++ ys) ≡ true
any_later p i [] ys some = some
any_later p i (x ∷ xs) ys some = by (is_answer p i x) (any_later p i xs ys some)
  where
    by : (b : Bool) → any_answers p i (xs ++ ys) ≡ true → cond b true (any_answers p i (xs ++ ys)) ≡ true
    by true rest = refl
    by false rest = rest

any_row : (p : Processor) (i : ℕ) (rows : List (List Letter)) (k : ℕ) → any_answers p i (slice_index_or rows k [])
    ≡ true → any_answers p i (flat_map same_row rows) ≡ true
any_row p i [] k some = cc
any_row p i (row ∷ rows) zero some = any_first p i row (flat_map same_row rows) some
any_row p i (row ∷ rows) (suc k) some = any_later p i row (flat_map same_row rows) (any_row p i rows k some)

-- The letters under way: of those about a thread at most one says where its send or order is

abbrev pub is_told : Machine → ℕ → Posted → Bool
is_told m i q = cond (is_about m i q) (is_locator q.letter.content) false

abbrev pub locators_of : Machine → ℕ → List Posted → List Posted
locators_of m i mail = locators (filter (is_about m i) mail)

first_told : (m : Machine) (i : ℕ) (q : Posted) (mail : List Posted) →
    locators_of m i (q ∷ mail) ≡ cond (is_told m i q) (q ∷ locators_of m i mail) (locators_of m i mail)
first_told m i q mail = by (is_about m i q)
  where
    by : (b : Bool) → locators (cond b (q ∷ filter (is_about m i) mail) (filter (is_about m i) mail))
        ≡ cond (cond b (is_locator q.letter.content) false) (q ∷ locators_of m i mail) (locators_of m i mail)
    by true = refl
    by false = refl

none_told : (m : Machine) (i : ℕ) (mail : List Posted) → locators_of m i mail ≡ [] →
    AllByRecursion (λ q. is_told m i q ≡ false) mail
none_told m i [] none = tt
none_told m i (q ∷ mail) none = by (is_told m i q) refl (sym (first_told m i q mail) ∙ none) (none_told m i mail)
  where
    by : (b : Bool) → is_told m i q ≡ b → cond b (q ∷ locators_of m i mail) (locators_of m i mail) ≡ [] →
        (locators_of m i mail ≡ [] → AllByRecursion (λ q. is_told m i q ≡ false) mail) →
        (is_told m i q ≡ false) × AllByRecursion (λ q. is_told m i q ≡ false) mail
    by true is none rest = cc
    by false is none rest = (is, rest none)

one_told : (m : Machine) (i : ℕ) (p : Posted) (mail : List Posted) → locators_of m i mail ≡ p ∷ [] →
    AllByRecursion (λ q. is_told m i q ≡ true → q ≡ p) mail
one_told m i p [] one = tt
one_told m i p (q ∷ mail) one = by (is_told m i q) refl (sym (first_told m i q mail) ∙ one) (one_told m i p mail)
  where
    weaker : (mail : List Posted) → AllByRecursion (λ q. is_told m i q ≡ false) mail →
        AllByRecursion (λ q. is_told m i q ≡ true → q ≡ p) mail
    weaker [] all = tt
    weaker (q ∷ mail) all = ((λ is. let no_is = all.0 in cc), weaker mail all.1)

    by : (b : Bool) → is_told m i q ≡ b → cond b (q ∷ locators_of m i mail) (locators_of m i mail) ≡ p ∷ [] →
        (locators_of m i mail ≡ p ∷ [] → AllByRecursion (λ q. is_told m i q ≡ true → q ≡ p) mail) →
        (is_told m i q ≡ true → q ≡ p) × AllByRecursion (λ q. is_told m i q ≡ true → q ≡ p) mail
    by true is one others =
        let first : q ≡ p = cc in
        let rest : locators_of m i mail ≡ [] = cc in
        ((λ told. first), weaker mail (none_told m i mail rest))
    by false is one others = ((λ told. cc), others one)

-- That one is under way where it is said to be.
told_about : (m : Machine) (i : ℕ) (p : Posted) (mail : List Posted) → locators_of m i mail ≡ p ∷ [] →
    is_told m i p ≡ true
told_about m i p [] one = cc
told_about m i p (q ∷ mail) one = by (is_told m i q) refl (sym (first_told m i q mail) ∙ one) (told_about m i p mail)
  where
    by : (b : Bool) → is_told m i q ≡ b → cond b (q ∷ locators_of m i mail) (locators_of m i mail) ≡ p ∷ [] →
        (locators_of m i mail ≡ p ∷ [] → is_told m i p ≡ true) → is_told m i p ≡ true
    by true is one rest = let first : q ≡ p = cc in subst (λ q. is_told m i q ≡ true) first is
    by false is one rest = rest one

pub told_between : (m : Machine) (i : ℕ) (n : Processor) (p : Posted) (mail : List Posted) →
    is_answer n i p.letter ≡ true → locators_of m i mail ≡ p ∷ [] →
    any_answers n i (letters mail p.from p.to) ≡ true
told_between m i n p [] answer one = cc
told_between m i n p (q ∷ mail) answer one = by (is_told m i q) (sym (first_told m i q mail) ∙ one)
    (told_between m i n p mail answer)
  where
    here : any_answers n i (letters (p ∷ mail) p.from p.to) ≡ true
    here = rw (same_nat p.from, same_nat p.to, answer) refl

    later : (b : Bool) → any_answers n i (letters mail p.from p.to) ≡ true →
        any_answers n i (map (λ (q : Posted). q.letter)
        (cond b (q ∷ filter (is_between p.from p.to) mail) (filter (is_between p.from p.to) mail))) ≡ true
    later true rest = any_later n i (q.letter ∷ []) (letters mail p.from p.to) rest
    later false rest = rest

    by : (b : Bool) → cond b (q ∷ locators_of m i mail) (locators_of m i mail) ≡ p ∷ [] →
        (locators_of m i mail ≡ p ∷ [] → any_answers n i (letters mail p.from p.to) ≡ true) →
        any_answers n i (letters (q ∷ mail) p.from p.to) ≡ true
    by true one rest = let first : q ≡ p = cc in subst (λ q. any_answers n i (letters (q ∷ mail) p.from p.to) ≡ true)
        (sym first) here
    by false one rest = later (is_between p.from p.to q) (rest one)

-- Whether a letter answers a thread where it goes

abbrev pub processor_at : Machine → (cpu : ℕ) → Local → Processor
processor_at m cpu l = record { machine = m; cpu = cpu; local = l }

own_told : (m : Machine) (cpu i : ℕ) (id : GlobalId) → is_place (own_place m cpu id) i ≡ true →
    is_place (place_of m id) i ≡ true
own_told m cpu i id is = by (place_of m id) is
  where
    at : (j : ℕ) (b : Bool) → is_place (b >> Some j) i ≡ true → (j == i) ≡ true
    at j true is = is
    at j false is = cc

    by : (o : Option ℕ) → is_place (o >>= λ j. is_own m cpu j >> Some j) i ≡ true → is_place o i ≡ true
    by None is = cc
    by (Some j) is = at j (is_own m cpu j) is

own_at : (m : Machine) (cpu i : ℕ) (id : GlobalId) → is_place (place_of m id) i ≡ true → cpu ≡ home m i →
    is_place (own_place m cpu id) i ≡ true
own_at m cpu i id is here = by (place_of m id) is
  where
    own : is_own m cpu i ≡ true
    own = subst (λ cpu. is_own m cpu i ≡ true) (sym here) (same_nat (home m i))

    by : (o : Option ℕ) → is_place o i ≡ true → is_place (o >>= λ j. is_own m cpu j >> Some j) i ≡ true
    by None is = cc
    by (Some j) is =
        let same : i ≡ j = sym (eqb-true j i is) in
        let own_j : is_own m cpu j ≡ true = subst (λ j. is_own m cpu j ≡ true) same own in
        rw own_j is

own_here : (m : Machine) (cpu i : ℕ) (id : GlobalId) → is_place (own_place m cpu id) i ≡ true → home m i ≡ cpu
own_here m cpu i id is = by (place_of m id) is
  where
    at : (j : ℕ) (b : Bool) → is_own m cpu j ≡ b → is_place (b >> Some j) i ≡ true → home m i ≡ cpu
    at j true own is = let same : j ≡ i = eqb-true j i is in
        eqb-true (home m i) cpu (subst (λ j. is_own m cpu j ≡ true) same own)
    at j false own is = cc

    by : (o : Option ℕ) → is_place (o >>= λ j. is_own m cpu j >> Some j) i ≡ true → home m i ≡ cpu
    by None is = cc
    by (Some j) is = at j (is_own m cpu j) refl is

answer_told : (m : Machine) (cpu i : ℕ) (l : Local) (q : Posted) → is_answer (processor_at m cpu l) i q.letter ≡ true →
    is_told m i q ≡ true
answer_told m cpu i l q is = by q.letter.content is
  where
    at : (id : GlobalId) → is_place (own_place m cpu id) i ≡ true → cond (is_place (place_of m id) i) true false ≡ true
    at id is = let about = own_told m cpu i id is in rw about refl

    by : (c : Content) → is_place (answers m cpu c) i ≡ true →
        cond (is_place (place_of m (subject c)) i) (is_locator c) false ≡ true
    by (SendLetter s receiver message zero_timeout) is = cc
    by (DoneLetter s result) is = at s.thread is
    by (WithdrawLetter s receiver cause) is = cc
    by (GoneLetter id) is = cc
    by (OrderLetter caller target what) is = cc
    by (OrderDoneLetter caller) is = at caller is
    by (RetargetLetter o) is = cc

answer_here : (m : Machine) (cpu i : ℕ) (l : Local) (x : Letter) → is_answer (processor_at m cpu l) i x ≡ true →
    home m i ≡ cpu
answer_here m cpu i l x is = by x.content is
  where
    by : (c : Content) → is_place (answers m cpu c) i ≡ true → home m i ≡ cpu
    by (SendLetter s receiver message zero_timeout) is = cc
    by (DoneLetter s result) is = own_here m cpu i s.thread is
    by (WithdrawLetter s receiver cause) is = cc
    by (GoneLetter id) is = cc
    by (OrderLetter caller target what) is = cc
    by (OrderDoneLetter caller) is = own_here m cpu i caller is
    by (RetargetLetter o) is = cc

answered_learns : (c : Content) (clock : ℕ) (t : Thread) → answered c clock t ≡ learns c clock t
answered_learns (SendLetter s receiver message zero_timeout) clock t = refl
answered_learns (DoneLetter s result) clock t = refl
answered_learns (WithdrawLetter s receiver cause) clock t = refl
answered_learns (GoneLetter id) clock t = refl
answered_learns (OrderLetter caller target what) clock t = refl
answered_learns (OrderDoneLetter caller) clock t = refl
answered_learns (RetargetLetter o) clock t = refl

-- What a thread's own processor hears

all_weaker : {A : Type 0} (P Q : A → Type 0) → ((x : A) → P x → Q x) → (xs : List A) → AllByRecursion P xs →
    AllByRecursion Q xs
all_weaker P Q weaker [] all = tt
all_weaker P Q weaker (x ∷ xs) all = (weaker x all.0, all_weaker P Q weaker xs all.1)

all_letters : (P : Letter → Type 0) (from to : ℕ) (mail : List Posted) →
    AllByRecursion (λ (q : Posted). P q.letter) mail → AllByRecursion P (letters mail from to)
all_letters P from to [] all = tt
all_letters P from to (q ∷ mail) all = by (is_between from to q) (all_letters P from to mail all.1)
  where
    by : (b : Bool) → AllByRecursion P (letters mail from to) →
        AllByRecursion P (map (λ (q : Posted). q.letter)
        (cond b (q ∷ filter (is_between from to) mail) (filter (is_between from to) mail)))
    by true rest = (all.0, rest)
    by false rest = rest

-- The letters that have come to this processor are those that are under way to it.
pub record HasMailOf (cpu : ℕ) (mail : List Posted) (inbox : List (List Letter)) : Type 0 where
  pub rows : (from : ℕ) → slice_index_or inbox from [] ≡ letters mail from cpu

pub heard_at_home : (m : Machine) (i : ℕ) (l : Local) (v : Seats) (send : _) (mail : List Posted)
    (inbox : List (List Letter)) (t : ℕ → Thread) →
    Row m i v (locators_of m i mail) send → HasMailOf (home m i) mail inbox → t i ≡ thread l i →
    hears_all (processor_at m (home m i) l) (flat_map same_row inbox) t i ≡ learned (locators_of m i mail) l.clock
    (thread l i)
heard_at_home m i l v send mail inbox t row has at = by (locators_of m i mail) refl row
  where
    n : Processor
    n = processor_at m (home m i) l

    rows : List Letter
    rows = flat_map same_row inbox

    all_rows_make : (made : Thread) → AllByRecursion (λ (q : Posted). Makes n i made q.letter) mail →
        AllByRecursion (Makes n i made) rows
    all_rows_make made all =
        all_rows (Makes n i made) inbox
        (λ from. subst (AllByRecursion (Makes n i made)) (sym (has.rows from))
        (all_letters (Makes n i made) from (home m i) mail all))

    whether : (made : Thread) (b : Bool) → any_answers n i rows ≡ b →
        AllByRecursion (λ (q : Posted). Makes n i made q.letter) mail →
        (any_answers n i rows ≡ false → made ≡ thread l i) → hears_all n rows t i ≡ made
    whether made true some all none_left = is_made n i made rows t (all_rows_make made all) some
    whether made false none all none_left = stays n i rows t none ∙ at ∙ sym (none_left none)

    from_none : (made : Thread) → locators_of m i mail ≡ [] →
        AllByRecursion (λ (q : Posted). Makes n i made q.letter) mail
    from_none made is = all_weaker (λ q. is_told m i q ≡ false) (λ q. Makes n i made q.letter)
        (λ q no_told answer. let told = answer_told m (home m i) i l q answer in cc) mail (none_told m i mail is)

    from_one : (p : Posted) → locators_of m i mail ≡ p ∷ [] →
        AllByRecursion (λ (q : Posted). Makes n i (learns p.letter.content l.clock (thread l i)) q.letter) mail
    from_one p is = all_weaker (λ q. is_told m i q ≡ true → q ≡ p)
        (λ q. Makes n i (learns p.letter.content l.clock (thread l i)) q.letter)
        (λ q same answer. answered_learns q.letter.content l.clock (thread l i)
        ∙ ap (λ (q : Posted). learns q.letter.content l.clock (thread l i))
        (same (answer_told m (home m i) i l q answer))) mail (one_told m i p mail is)

    -- an answer under way has come here
    has_come : (p : Posted) → locators_of m i mail ≡ p ∷ [] → p.to ≡ home m i → is_answer n i p.letter ≡ true →
        any_answers n i rows ≡ true
    has_come p is to answer = any_row n i inbox p.from
        (subst (λ xs. any_answers n i xs ≡ true) (ap (letters mail p.from) to ∙ sym (has.rows p.from))
        (told_between m i n p mail answer is))

    about : (p : Posted) → locators_of m i mail ≡ p ∷ [] → is_about m i p ≡ true
    about p is = at_b (is_about m i p) (told_about m i p mail is)
      where
        at_b : (b : Bool) → cond b (is_locator p.letter.content) false ≡ true → b ≡ true
        at_b true told = refl
        at_b false told = cc

    none_learned : (p : Posted) → locators_of m i mail ≡ p ∷ [] → (c : Content) → p.letter.content ≡ c →
        RowOf m i v p c → any_answers n i rows ≡ false →
        learns c l.clock (thread l i) ≡ thread l i
    none_learned p is (SendLetter s receiver message zero_timeout) content row none = refl
    none_learned p is (DoneLetter s result) content row none =
        let there : is_place (place_of m s.thread) i ≡ true =
        subst (λ c. is_place (place_of m (subject c)) i ≡ true) content (about p is) in
        let answer : is_answer n i p.letter ≡ true = subst (λ c. is_place (answers m (home m i) c) i ≡ true)
        (sym content) (own_at m (home m i) i s.thread there refl) in
        let some = has_come p is row.to answer in cc
    none_learned p is (WithdrawLetter s receiver cause) content row none = refl
    none_learned p is (GoneLetter id) content row none = refl
    none_learned p is (OrderLetter caller target what) content row none = refl
    none_learned p is (OrderDoneLetter caller) content row none =
        let there : is_place (place_of m caller) i ≡ true =
        subst (λ c. is_place (place_of m (subject c)) i ≡ true) content (about p is) in
        let answer : is_answer n i p.letter ≡ true = subst (λ c. is_place (answers m (home m i) c) i ≡ true)
        (sym content) (own_at m (home m i) i caller there refl) in
        let some = has_come p is row.to answer in cc
    none_learned p is (RetargetLetter o) content row none = refl

    by : (ps : List Posted) → locators_of m i mail ≡ ps → Row m i v ps send →
        hears_all n rows t i ≡ learned ps l.clock (thread l i)
    by [] is row = whether (thread l i) (any_answers n i rows) refl (from_none (thread l i) is) (λ none. refl)
    by (p ∷ []) is row = whether (learns p.letter.content l.clock (thread l i)) (any_answers n i rows) refl
        (from_one p is) (none_learned p is p.letter.content refl row)
    by (p ∷ q ∷ ps) is row = absurd row

-- What other processors hear does not concern it.
pub not_heard_elsewhere : (m : Machine) (i cpu : ℕ) (l : Local) (xs : List Letter) (t : ℕ → Thread) →
    (home m i ≡ cpu → ⊥) → hears_all (processor_at m cpu l) xs t i ≡ t i
not_heard_elsewhere m i cpu l xs t away = stays (processor_at m cpu l) i xs t (none xs)
  where
    none : (xs : List Letter) → any_answers (processor_at m cpu l) i xs ≡ false
    none [] = refl
    none (x ∷ xs) = by (is_answer (processor_at m cpu l) i x) refl (none xs)
      where
        by : (b : Bool) → is_answer (processor_at m cpu l) i x ≡ b → any_answers (processor_at m cpu l) i xs ≡ false →
            cond b true (any_answers (processor_at m cpu l) i xs) ≡ false
        by true is rest = absurd (away (answer_here m cpu i l x is))
        by false is rest = rest

-- Processor by processor

as_station : (m : Machine) (cpu : ℕ) (s : Station) → IsStation m cpu s → s.core ≡ processor_at m cpu s.core.local
as_station m cpu s is = ap₂ (λ (m : Machine) (cpu : ℕ). processor_at m cpu s.core.local) is.machine is.cpu_is

abbrev AreFrom : Machine → ℕ → List Station → Type 0
AreFrom m first ss = (k : ℕ) (s : Station) → slice_get ss k ≡ Some s → IsStation m (first + k) s

later_are : (m : Machine) (first : ℕ) (s : Station) (ss : List Station) → AreFrom m first (s ∷ ss) →
    AreFrom m (suc first) ss
later_are m first s ss each = λ k other at. subst (λ cpu. IsStation m cpu other) (omega arith) (each (suc k) other at)

elsewhere : (m : Machine) (i first : ℕ) (s : Station) (ss : List Station) (t : ℕ → Thread) → AreFrom m first (s ∷ ss) →
    (home m i ≡ first → ⊥) → hears_mail s t i ≡ t i
elsewhere m i first s ss t each away =
    let there : s.core ≡ processor_at m first s.core.local =
    as_station m first s (subst (λ cpu. IsStation m cpu s) (omega arith) (each 0 s refl)) in
    ap (λ (p : Processor). hears_all p (flat_map same_row s.inbox) t i) there
    ∙ not_heard_elsewhere m i first s.core.local (flat_map same_row s.inbox) t away

others_keep : (m : Machine) (i first : ℕ) (ss : List Station) (t : ℕ → Thread) → AreFrom m first ss →
    home m i < first → hears_all_mail ss t i ≡ t i
others_keep m i first [] t each before = refl
others_keep m i first (s ∷ ss) t each before =
    others_keep m i (suc first) ss (hears_mail s t) (later_are m first s ss each) (omega (arith, before))
    ∙ elsewhere m i first s ss t each (λ e. absurd (omega (arith, e, before)))

one_hears : (m : Machine) (i first k : ℕ) (ss : List Station) (s : Station) (t : ℕ → Thread) (start made : Thread) →
    AreFrom m first ss → slice_get ss k ≡ Some s →
    home m i ≡ first + k → ((t : ℕ → Thread) → t i ≡ start → hears_mail s t i ≡ made) → t i ≡ start →
    hears_all_mail ss t i ≡ made
one_hears m i first k [] s t start made each at here hearing is = cc
one_hears m i first zero (x ∷ ss) s t start made each at here hearing is =
    let same : x ≡ s = some_is x s at in
    others_keep m i (suc first) ss (hears_mail x t) (later_are m first x ss each) (omega (arith, here))
    ∙ subst (λ s. hears_mail s t i ≡ made) (sym same) (hearing t is)
one_hears m i first (suc k) (x ∷ ss) s t start made each at here hearing is =
    one_hears m i (suc first) k ss s (hears_mail x t) start made (later_are m first x ss each) at
    (omega (arith, here)) hearing
    (elsewhere m i first x ss t each (λ e. absurd (omega (arith, e, here))) ∙ is)

-- So the world has each thread as its own processor will have it.

home_is : (m : Machine) (g : System) (ss : List Station) (s : Station) (i : ℕ) →
    g.locals ≡ map (λ (s : Station). s.core.local) ss → slice_get ss (home m i) ≡ Some s →
    slice_get g.locals (home m i) ≡ Some s.core.local
home_is m g ss s i locals at = ap (λ ls. slice_get ls (home m i)) locals
    ∙ slice_get-map (λ (s : Station). s.core.local) ss (home m i) ∙ ap (option_map (λ (s : Station). s.core.local)) at

heard_is_learned : (m : Machine) (g : System) (w : World) (ss : List Station) (i : ℕ) → IsMachine m → Relates m g w →
    IsSystem m g ss → i < length m.threads →
    hears_all_mail ss (home_thread m g.locals) i
    ≡ learned (locators_of m i g.mail) (kept ((scene g).locals (home m i)) i).clock
    (kept ((scene g).locals (home m i)) i).thread
heard_is_learned m g w ss i machine relates system lt = by (slice_get ss (home m i)) refl
  where
    homed : home m i < length ss
    homed = let cpu = machine.homed i lt in let count = system.for_each in omega arith

    by : (o : Option Station) → slice_get ss (home m i) ≡ o → hears_all_mail ss (home_thread m g.locals) i
        ≡ learned (locators_of m i g.mail) (kept ((scene g).locals (home m i)) i).clock
        (kept ((scene g).locals (home m i)) i).thread
    by None at = let some = slice_get-get_or ss (home m i) (record { core = processor_at m 0 nowhere; inbox = [] })
        homed in cc
    by (Some s) at =
        let here : slice_get g.locals (home m i) ≡ Some s.core.local = home_is m g ss s i system.locals at in
        let local : (scene g).locals (home m i) ≡ s.core.local =
        get_or_from_slice_get g.locals (home m i) s.core.local nowhere here in
        let start : home_thread m g.locals i ≡ thread s.core.local i = ap (thread_of i) here in
        let v = view m (scene g) w i in
        let row : Row m i (seats m i v) (locators_of m i g.mail) (v.kept (home m i)).thread.send =
        (relates.places i lt tt).known.row in
        let has : HasMailOf (home m i) g.mail s.inbox =
        record { rows = λ from. sym (system.mail from (home m i) ∙ ap (letters_at from) at) } in
        let there : s.core ≡ processor_at m (home m i) s.core.local =
        as_station m (home m i) s (system.each (home m i) s at) in
        let hearing : (t : ℕ → Thread) → t i ≡ thread s.core.local i →
        hears_mail s t i ≡ learned (locators_of m i g.mail) s.core.local.clock (thread s.core.local i) =
        λ t is. ap (λ (p : Processor). hears_all p (flat_map same_row s.inbox) t i) there
        ∙ heard_at_home m i s.core.local (seats m i v) (v.kept (home m i)).thread.send g.mail s.inbox t row has is in
        one_hears m i 0 (home m i) ss s (home_thread m g.locals) (thread s.core.local i)
        (learned (locators_of m i g.mail) s.core.local.clock (thread s.core.local i))
        (λ k x at. subst (λ cpu. IsStation m cpu x) (omega arith) (system.each k x at)) at (omega arith) hearing start
        ∙ ap (λ (l : Local). learned (locators_of m i g.mail) l.clock (thread l i)) (sym local)

pub heard_in_world : (m : Machine) (g : System) (w : World) (ss : List Station) → IsMachine m → Relates m g w →
    IsSystem m g ss →
    HaveRegisters m (reports_of m (hears_all_mail ss (home_thread m g.locals))) →
    IsToldBy m (hears_all_mail ss (home_thread m g.locals)) w
heard_in_world m g w ss machine relates system registers = told_by_alike m t w relates.sized_world.threads
    (by registers)
  where
    t : ℕ → Thread
    t = hears_all_mail ss (home_thread m g.locals)

    alive : AllByRecursion IsUndeleted (reports_of m t) → (i : ℕ) → i < length m.threads →
        is_deleted_state (state_of (t i).phase) ≡ false
    alive undeleted i lt = subst (λ k. is_deleted_state (state_of (t k).phase) ≡ false) (omega arith)
        (all_at IsUndeleted (λ i. report_of (declared m i).id (t i)) (length m.threads) 0 i lt undeleted)

    agrees : (i : ℕ) → i < length m.threads → Agrees m (slice_index_or w.threads i opening_thread) (t i)
    agrees i lt = subst (Agrees m (slice_index_or w.threads i opening_thread))
        (sym (heard_is_learned m g w ss i machine relates system lt))
        (relates.places i lt tt).known.agrees

    by : HaveRegisters m (reports_of m t) → (i : ℕ) → i < length m.threads →
        IsAlike (slice_index_or w.threads i opening_thread) (t i)
    by (inl alone) i lt = same_alike _ _ ((agrees i lt).together (all_together m machine alone))
    by (inr undeleted) i lt = agreeing_alike (slice_index_or w.threads i opening_thread) (t i) (alive undeleted i lt)
        (agrees i lt)

-- What is told of a core run.
pub heard_of_world : (m : Machine) (r : Run) (ss : List Station) → IsMachine m → IsCoreRun m r →
    IsSystem m r.system ss →
    AreOfWorld m r (hears_all_mail ss (home_thread m r.system.locals))
heard_of_world m r ss machine is system = λ registers w at.
    let f = run_facts m r machine is in
    subst (IsToldBy m (hears_all_mail ss (home_thread m r.system.locals))) (some_is f.world w (sym f.reaches ∙ at))
    (heard_in_world m r.system f.world ss machine f.relates system registers)
