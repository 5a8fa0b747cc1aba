-- What a session has come to behind some lines.
use Rattle.std.proofs.Common.{◌≡◌, ◌⊎◌, ℕ, zero, suc, ◌+◌, ◌<◌, Bool, true, false, cond, Option, Some, None, IfSome, List, [], ◌∷◌, ◌++◌, length, refl, ap, sym, subst, inl, inr, ◌∙◌, append-nil, append_assoc, arith}
use Rattle.std.specs.Prelude.{◌==◌}
use Rattle.std.specs.Io.BufRead.{DropsThrough, drop_through, take_through}
use Rattle.std.specs.Io.KnownBytes.{IsAtEnd}
use Rattle.l4_model.specs.Machine.{Machine}
use Rattle.l4_core_model.specs.Schedules.{Entry}
use Rattle.l4_chart.specs.Listings.{Listing}
use Rattle.l4_chart.specs.declared.whole.TextForm.{TextForm}
use Rattle.l4_steps.specs.Replies.{Reply, reply_to}
use Rattle.l4_steps.specs.Sessions.{IsSession, lines_of, told_of, told_then, with_byte}
use Rattle.l4_jobs.specs.Inner.Holding.{GivesLine, HasLines, IsBehind}
use Rattle.l4_jobs.specs.Performing.{Takes}
use Rattle.l4_jobs.specs.Steps.{AreLines, EndsSession, IsHeld, IsHeldUpTo, IsInputUnread}
use Rattle.l4_jobs.specs.declared.fault.Fault.{Fault}
use Rattle.l4_jobs.specs.declared.fault.Fault.TheVariants as fault

-- The first line of an input is what a reader gives up to a line end.

with_first : (byte : ℕ) (bytes : List ℕ) → with_byte byte (lines_of bytes) ≡ (byte ∷ take_through 10 bytes) ∷ lines_of (drop_through 10 bytes)
with_first byte [] = refl
with_first byte (next ∷ bytes) = by (next == 10) (with_first next bytes)
  where
    by : (b : Bool) → with_byte next (lines_of bytes) ≡ (next ∷ take_through 10 bytes) ∷ lines_of (drop_through 10 bytes) →
        with_byte byte (cond b ((next ∷ []) ∷ lines_of bytes) (with_byte next (lines_of bytes)))
        ≡ (byte ∷ cond b (next ∷ []) (next ∷ take_through 10 bytes)) ∷ lines_of (cond b bytes (drop_through 10 bytes))
    by true h = refl
    by false h = ap (with_byte byte) h

first_line : (byte : ℕ) (bytes : List ℕ) → lines_of (byte ∷ bytes) ≡ take_through 10 (byte ∷ bytes) ∷ lines_of (drop_through 10 (byte ∷ bytes))
first_line byte bytes = by (byte == 10)
  where
    by : (b : Bool) → cond b ((byte ∷ []) ∷ lines_of bytes) (with_byte byte (lines_of bytes))
        ≡ cond b (byte ∷ []) (byte ∷ take_through 10 bytes) ∷ lines_of (cond b bytes (drop_through 10 bytes))
    by true = refl
    by false = with_first byte bytes

pub there : (n old new : ℕ) → new ≡ old + n → old ≡ 0 → (n ≡ 0 → ⊥) → 0 < new
there zero old new is none some = absurd (some refl)
there (suc n) old new is none some = omega (arith, is, none)

pub given : (old new : Option (List ℕ)) (before line : List ℕ) → before ≡ [] → 0 < length line → IfSome old (λ bytes. line ≡ before ++ take_through 10 bytes) →
    DropsThrough old new 10 → GivesLine old new line
given None new before line none there is rest = tt
given (Some []) new before line none there is rest =
    let empty : line ≡ [] = is ∙ ap (λ text. text ++ []) none in
    absurd (let bad : 0 < 0 = subst (λ (text : List ℕ). 0 < length text) empty there in omega (arith, bad))
given (Some (byte ∷ bytes)) new before line none there is rest =
    subst (λ (left : Option (List ℕ)). GivesLine (Some (byte ∷ bytes)) left line) (sym rest)
    (first_line byte bytes ∙ ap (λ first. first ∷ lines_of (drop_through 10 (byte ∷ bytes))) (sym (is ∙ ap (λ text. text ++ take_through 10 (byte ∷ bytes)) none)))

-- Lines of the input, and those that are still to come

more_lines : (known left new : Option (List ℕ)) (read : List (List ℕ)) (line : List ℕ) → HasLines known left read → GivesLine left new line →
    HasLines known new (read ++ line ∷ [])
more_lines None left new read line has gives = tt
more_lines (Some bytes) None new read line has gives = absurd has
more_lines (Some bytes) (Some rest) None read line has gives = absurd gives
more_lines (Some bytes) (Some rest) (Some later) read line has gives =
    has ∙ ap (λ ls. read ++ ls) gives ∙ sym (append_assoc read (line ∷ []) (lines_of later))

all_lines : (known left : Option (List ℕ)) (read : List (List ℕ)) → HasLines known left read → (lines : List (List ℕ)) × AreLines known (read ++ lines)
all_lines None left read has = ([], tt)
all_lines (Some bytes) None read has = absurd has
all_lines (Some bytes) (Some rest) read has = (lines_of rest, sym has)

no_line : (known left : Option (List ℕ)) (read : List (List ℕ)) → HasLines known left read → IsAtEnd left → AreLines known (read ++ [])
no_line None left read has end = tt
no_line (Some bytes) None read has end = absurd has
no_line (Some bytes) (Some rest) read has end = sym (has ∙ ap (λ bytes. read ++ lines_of bytes) end)

-- From the opening on

no_lines : (known : Option (List ℕ)) → HasLines known known []
no_lines None = tt
no_lines (Some bytes) = refl

pub opened : (m : Machine) (l : Listing) (form : TextForm) (known : Option (List ℕ)) (out : Takes) (es : List Entry) → IsSession m [] → es ≡ [] → out [] true → IsBehind m l form known known out es
opened m l form known out es s none nothing = subst (IsBehind m l form known known out) (sym none) (record {
  session = s;
  read = [];
  told = [];
  has = no_lines known;
  goes_on = λ lines. refl;
  wrote = nothing;
})

told_on : (r : Reply) (more : List Entry → List ℕ) (b : Bool) → r.ends ≡ b → told_then r more ≡ r.text ++ cond b [] (more r.entries)
told_on r more b is = ap (λ ends. r.text ++ cond ends [] (more r.entries)) is

pub went_on : (m : Machine) (l : Listing) (form : TextForm) (known left new : Option (List ℕ)) (before out : Takes) (es : List Entry) (line : List ℕ) → IsBehind m l form known left before es →
    GivesLine left new line → IsSession m (reply_to m l form es line).entries → (reply_to m l form es line).ends ≡ false →
    ((told : List ℕ) → before told true → out (told ++ (reply_to m l form es line).text) true) → IsBehind m l form known new out (reply_to m l form es line).entries
went_on m l form known left new before out es line b gives s more onto =
    let r = reply_to m l form es line in record {
      session = s;
      read = b.read ++ line ∷ [];
      told = b.told ++ r.text;
      has = more_lines known left new b.read line b.has gives;
      goes_on =
          λ lines.
          ap (λ ls. told_of m l form ls []) (append_assoc b.read (line ∷ []) lines) ∙ b.goes_on (line ∷ lines)
          ∙ ap (λ text. b.told ++ text) (told_on r (told_of m l form lines) false more) ∙ sym (append_assoc b.told r.text (told_of m l form lines r.entries));
      wrote = onto b.told b.wrote;
    }

-- To an end

pub ended : (m : Machine) (l : Listing) (form : TextForm) (known left : Option (List ℕ)) (out : Takes) (es : List Entry) → IsBehind m l form known left out es → IsAtEnd left →
    IsHeld (λ lines. told_of m l form lines []) known out
ended m l form known left out es b end =
    (b.read ++ [], no_line known left b.read b.has end, subst (λ text. out text true) (sym (b.goes_on [] ∙ append-nil b.told)) b.wrote)

pub quits : (m : Machine) (l : Listing) (form : TextForm) (known left new : Option (List ℕ)) (before out : Takes) (es : List Entry) (line : List ℕ) → IsBehind m l form known left before es →
    GivesLine left new line → (reply_to m l form es line).ends ≡ true →
    ((told : List ℕ) → before told true → out (told ++ (reply_to m l form es line).text) true) → IsHeld (λ lines. told_of m l form lines []) known out
quits m l form known left new before out es line b gives last onto =
    let r = reply_to m l form es line in
    let all = all_lines known new (b.read ++ line ∷ []) (more_lines known left new b.read line b.has gives) in
    let same : told_of m l form ((b.read ++ line ∷ []) ++ all.0) [] ≡ b.told ++ r.text =
    ap (λ ls. told_of m l form ls []) (append_assoc b.read (line ∷ []) all.0) ∙ b.goes_on (line ∷ all.0)
    ∙ ap (λ text. b.told ++ text) (told_on r (told_of m l form all.0) true last ∙ append-nil r.text) in
    ((b.read ++ line ∷ []) ++ all.0, all.1, subst (λ text. out text true) (sym same) (onto b.told b.wrote))

pub broke : (m : Machine) (l : Listing) (form : TextForm) (known left : Option (List ℕ)) (out : Takes) (es : List Entry) (f : Fault) → IsBehind m l form known left out es →
    EndsSession known f → IsHeldUpTo (λ lines. told_of m l form lines []) known out f
broke m l form known left out es f b ends =
    let all = all_lines known left b.read b.has in
    (b.read ++ all.0, all.1, (b.told, told_of m l form all.0 es, b.goes_on all.0, inl (ends, b.wrote)))

-- A reader does not tell whether a read fails, so what is left of its bytes says nothing of it.
pub unread : (known left : Option (List ℕ)) (f : Fault) → IsInputUnread left f → EndsSession known f
unread known left f (kind, gives, is) = inr (kind, tt, is)

pub broke_off : (m : Machine) (l : Listing) (form : TextForm) (known left new : Option (List ℕ)) (before out : Takes) (es : List Entry) (line : List ℕ) (f : Fault) → IsBehind m l form known left before es →
    GivesLine left new line → f ≡ fault.Write →
    ((told : List ℕ) → before told true → out (told ++ (reply_to m l form es line).text) false) → IsHeldUpTo (λ lines. told_of m l form lines []) known out f
broke_off m l form known left new before out es line f b gives is onto =
    let r = reply_to m l form es line in
    let all = all_lines known new (b.read ++ line ∷ []) (more_lines known left new b.read line b.has gives) in
    let rest = cond r.ends [] (told_of m l form all.0 r.entries) in
    let same : told_of m l form ((b.read ++ line ∷ []) ++ all.0) [] ≡ (b.told ++ r.text) ++ rest =
    ap (λ ls. told_of m l form ls []) (append_assoc b.read (line ∷ []) all.0) ∙ b.goes_on (line ∷ all.0) ∙ sym (append_assoc b.told r.text rest) in
    ((b.read ++ line ∷ []) ++ all.0, all.1, (b.told ++ r.text, rest, same, inr (is, onto b.told b.wrote)))

pub broke_reply : (m : Machine) (l : Listing) (form : TextForm) (known left new : Option (List ℕ)) (Now : Type 0) (before now out : Takes) (es : List Entry) (line : List ℕ) (f : Fault) → IsBehind m l form known left before es →
    GivesLine left new line → ((told : List ℕ) → before told true → Now → out told true) →
    ((told : List ℕ) → before told true → now (reply_to m l form es line).text false → out (told ++ (reply_to m l form es line).text) false) →
    ((f ≡ fault.NoMemory) × Now) ⊎ ((f ≡ fault.Write) × now (reply_to m l form es line).text false) → IsHeldUpTo (λ lines. told_of m l form lines []) known out f
broke_reply m l form known left new Now before now out es line f b gives same onto (inl (is, none)) =
    broke m l form known left out es f (record {
      session = b.session;
      read = b.read;
      told = b.told;
      has = b.has;
      goes_on = b.goes_on;
      wrote = same b.told b.wrote none;
    }) (inl is)
broke_reply m l form known left new Now before now out es line f b gives same onto (inr (is, wrote)) =
    broke_off m l form known left new before out es line f b gives is (λ told h. onto told h wrote)

pub at_some : {A : Type 0} (o : Option A) (x : A) (P : A → Type 0) → o ≡ Some x → IfSome o P → P x
at_some {A} o x P is h = subst (λ (found : Option A). IfSome found P) is h

-- With what is told first

pub held_behind : (front : List ℕ) (tells : List (List ℕ) → List ℕ) (known : Option (List ℕ)) (before out : Takes) →
    ((text : List ℕ) (all : Bool) → before text all → out (front ++ text) all) → IsHeld tells known before → IsHeld (λ lines. front ++ tells lines) known out
held_behind front tells known before out onto (lines, are, wrote) = (lines, are, onto (tells lines) true wrote)

pub broke_behind : (front : List ℕ) (tells : List (List ℕ) → List ℕ) (known : Option (List ℕ)) (before out : Takes) (f : Fault) →
    ((text : List ℕ) (all : Bool) → before text all → out (front ++ text) all) → IsHeldUpTo tells known before f →
    IsHeldUpTo (λ lines. front ++ tells lines) known out f
broke_behind front tells known before out f onto (lines, are, (told, left, same, inl (ends, wrote))) =
    (lines, are, (front ++ told, left, ap (λ text. front ++ text) same ∙ sym (append_assoc front told left), inl (ends, onto told true wrote)))
broke_behind front tells known before out f onto (lines, are, (told, left, same, inr (is, wrote))) =
    (lines, are, (front ++ told, left, ap (λ text. front ++ text) same ∙ sym (append_assoc front told left), inr (is, onto told false wrote)))

pub nothing_told : (tells : List (List ℕ) → List ℕ) (known : Option (List ℕ)) (out : Takes) (f : Fault) → out [] true → f ≡ fault.NoMemory → IsHeldUpTo tells known out f
nothing_told tells known out f none is =
    let all = all_lines known known [] (no_lines known) in (all.0, all.1, ([], tells all.0, refl, inl (inl is, none)))

pub front_cut : (front : List ℕ) (tells : List (List ℕ) → List ℕ) (known : Option (List ℕ)) (out : Takes) (f : Fault) → f ≡ fault.Write → out front false →
    IsHeldUpTo (λ lines. front ++ tells lines) known out f
front_cut front tells known out f is wrote =
    let all = all_lines known known [] (no_lines known) in (all.0, all.1, (front, tells all.0, refl, inr (is, wrote)))
