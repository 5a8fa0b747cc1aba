-- From what clap finds to the rows of the matches, and from its faults to those of the words.
use Rattle.std.proofs.Common.{◌≡◌, ℕ, Bool, true, false, Option, Some, None, [], ◌∷◌, ◌++◌, codes, refl, sym, ap, subst, inl, inr, ◌∙◌}
use Rattle.std.specs.Prelude.{◌⊎◌, ◌≢◌, Decides, MatchBool, option_map}
use Rattle.std.proofs.lemmas.Slice.Eq.{bytes_eq-Decides}
use Rattle.std.specs.Str.{bytes_eq}
use Rattle.std.specs.Str.Parse.{ParsesBool}
use Rattle.clap.specs.Matches.{ReadsOne}
use Rattle.clap.specs.Words.{Text, one_text, rows_of}
use Rattle.clap.specs.Kinds.{Kinds, IsAmong}
use Rattle.clap.specs.declared.error.kind.ErrorKind.{ErrorKind}
use Rattle.clap.specs.declared.error.kind.ErrorKind.TheVariants.{OutOfMemory}
use Rattle.clap.specs.declared.parser.matches.Found.{Found}
use Rattle.clap.proofs.WalkLemmas.{one_text-rows}
use Rattle.l4_commands.specs.Asked.{IsRefusal, Tells, has_flag, is_on, number_in, number_of}
use Rattle.l4_commands.specs.declared.words.WordsFault.{WordsFault}
use Rattle.l4_commands.specs.declared.words.WordsFault.TheVariants.{Help, Usage, NoMemory}

-- A number that was read is that of the rows.

read : (o : Option Text) (n : ℕ) → (o ≡ None → Some n ≡ None) → ((t : Text) → o ≡ Some t → n ≡ number_of t) → Some n ≡ option_map number_of o
read None n none value = absurd (let e = none refl in cc)
read (Some t) n none value = ap (λ (m : ℕ). Some m) (value t refl)

pub number_read : (f : Found) (name : Text) (n : ℕ) → (one_text f name ≡ None → Some n ≡ None) → ((t : Text) → one_text f name ≡ Some t → n ≡ number_of t) →
    Some n ≡ number_in name (rows_of f)
number_read f name n none value = read (one_text f name) n none value ∙ ap (option_map number_of) (one_text-rows f name)

-- A flag is on where the text of the rows says so.

other_text : (t s : Text) → t ≢ s → bytes_eq t s ≡ false
other_text t s other = by (bytes_eq t s) (bytes_eq-Decides t s)
  where
    by : (b : Bool) → Decides b (t ≡ s) → b ≡ false
    by true same = absurd (other (same.0 refl))
    by false same = refl

says : (t : Text) (b : Bool) → MatchBool b (t ≡ codes "true") (t ≡ codes "false") → b ≡ is_on (Some t)
says t true e = sym (ap (λ (o : Option Text). is_on o) (ap (λ (s : Text). Some s) e))
says t false e = sym (ap (λ (o : Option Text). is_on o) (ap (λ (s : Text). Some s) e))

given_read : (o : Option Text) (b : Bool) → (o ≡ None → Some b ≡ None) → ((t : Text) → o ≡ Some t → MatchBool b (t ≡ codes "true") (t ≡ codes "false")) → b ≡ is_on o
given_read None b none value = absurd (let e = none refl in cc)
given_read (Some t) b none value = says t b (value t refl)

none_read : (E : Type 0) (o : Option Text) → ((t : Text) → o ≡ Some t → ReadsOne {E = E} ParsesBool t None) → false ≡ is_on o
none_read E None value = refl
none_read E (Some t) value = sym (other_text t (codes "true") (value t refl).1.0)

pub flag_on : (f : Found) (name : Text) (b : Bool) → (one_text f name ≡ None → Some b ≡ None) →
    ((t : Text) → one_text f name ≡ Some t → MatchBool b (t ≡ codes "true") (t ≡ codes "false")) → b ≡ has_flag name (rows_of f)
flag_on f name b none value = given_read (one_text f name) b none value ∙ ap is_on (one_text-rows f name)

pub flag_off : (E : Type 0) (f : Found) (name : Text) → ((t : Text) → one_text f name ≡ Some t → ReadsOne {E = E} ParsesBool t None) →
    false ≡ has_flag name (rows_of f)
flag_off E f name value = none_read E (one_text f name) value ∙ ap is_on (one_text-rows f name)

-- A fault stays among the faults if more are appended.
among_more : (kind : ErrorKind) (kinds more : Kinds) → IsAmong kind kinds → IsAmong kind (kinds ++ more)
among_more kind [] more among = elim among [ ]
among_more kind (k ∷ kinds) more (inl e) = inl e
among_more kind (k ∷ kinds) more (inr among) = inr (among_more kind kinds more among)

pub refusal_more : (kinds more : Kinds) (fault : WordsFault) → IsRefusal kinds fault → IsRefusal (kinds ++ more) fault
refusal_more kinds more (Help text) (kind, among, help) = (kind, among_more kind kinds more among, help)
refusal_more kinds more (Usage text) (kind, among, no_help, no_version) = (kind, among_more kind kinds more among, no_help, no_version)
refusal_more kinds more NoMemory is = tt

-- A refusal by the error that clap found is a refusal by the faults that the words may have.
pub refusal_of : (kinds : Kinds) (kind : ErrorKind) (fault : WordsFault) → (kind ≡ OutOfMemory → fault ≡ NoMemory) → IsRefusal (kind ∷ []) fault →
    (kind ≡ OutOfMemory) ⊎ IsAmong kind kinds → IsRefusal kinds fault
refusal_of kinds kind NoMemory memory refusal among = tt
refusal_of kinds kind (Help text) memory refusal (inl e) = absurd (let bad = memory e in cc)
refusal_of kinds kind (Usage text) memory refusal (inl e) = absurd (let bad = memory e in cc)
refusal_of kinds kind (Help text) memory (k, inl e, rest) (inr among) = (k, subst (λ x. IsAmong x kinds) (sym e) among, rest)
refusal_of kinds kind (Help text) memory (k, inr none, rest) (inr among) = elim none [ ]
refusal_of kinds kind (Usage text) memory (k, inl e, no_help, no_version) (inr among) = (k, subst (λ x. IsAmong x kinds) (sym e) among, no_help, no_version)
refusal_of kinds kind (Usage text) memory (k, inr none, no_help, no_version) (inr among) = elim none [ ]

-- Where clap found no fault it refused no words, so no usage text is its own.
pub untold : (kinds : Kinds) (told : Option Text) (fault : WordsFault) → IsRefusal kinds fault → kinds ≡ [] → Tells told fault
untold kinds told (Help text) refusal none = tt
untold kinds told NoMemory refusal none = tt
untold [] told (Usage text) (kind, among, no_help, no_version) none = elim among [ ]
untold (k ∷ kinds) told (Usage text) refusal none = absurd (let bad = none in cc)
