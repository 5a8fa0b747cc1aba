-- Of states within a machine, those with the same code are similar, and similar ones have the same
-- code.
use Rattle.std.proofs.Common.{◌≡◌, ℕ, zero, suc, ◌+◌, ◌-◌, ◌<◌, ◌≤◌, ◌⊎◌, inl, inr, Option, Some, None, List, [], ◌∷◌, map, length, refl, ap, sym, ◌∙◌, subst, arith}
use Rattle.std.specs.List.{AllByRecursion, range_with_len}
use Rattle.std.proofs.lemmas.Bool.{cases_lt}
use Rattle.l4_model.specs.Machine.{Machine}
use Rattle.std.specs.Option.{option_map}
use Rattle.l4_model.specs.World.{Deleted, Ended, Ordering, Owed, Phase, Ready, Receiving, Send, Sending, Thread}
use Rattle.l4_core_model.specs.Letters.{Content, DoneLetter, GoneLetter, Letter, OrderDoneLetter, OrderLetter, RetargetLetter, SendLetter, WithdrawLetter}
use Rattle.l4_core_model.specs.Plain.{Plain}
use Rattle.l4_core_model.specs.Local.{Local}
use Rattle.l4_core_model.specs.Runs.{System, letters, processors, IsMachine}
use Rattle.l4_bisimilar.specs.Alike.{contents}
use Rattle.l4_bisimilar.specs.Similar.{numberless_content, numberless_owed}
use Rattle.l4_bisimilar.proofs.Numbers.{pared_contents}
use Rattle.l4_bisimilar.specs.Shifted.{IsShifted, ahead, relative_thread, timeless_phase, timeless_send}
use Rattle.l4_bisimilar.proofs.Times.{are_bare, are_shifted, bare_local}
use Rattle.l4_states.specs.Inner.Bytes.{bytes_of}
use Rattle.l4_states.specs.Inner.Codes.{each, armed_code, asked_code, chained, content_code, context_code, flag_code, lists_code, number_code, optional, owed_code, phase_code, send_code, thread_code, waiting_code, sized, length_code, local_code, mail_from_code, mail_to_code, system_code, code_of}
use Rattle.l4_states.specs.Choices.{IsCoded}
use Rattle.l4_states.proofs.Bytes.{bytes_apart}
use Rattle.l4_states.proofs.Parts.{contents_apart, locals_apart}
use Rattle.l4_states.proofs.Reached.{IsWithin, reached_within}

-- Two codes of the same numbers, one after the other.

each_apart : (P : ℕ → Type 0) (c d : ℕ → List ℕ → List ℕ) →
    ((k : ℕ) (x y : List ℕ) → c k x ≡ d k y → P k × (x ≡ y)) →
    (ks : List ℕ) (x y : List ℕ) → each c ks x ≡ each d ks y → AllByRecursion P ks × (x ≡ y)
each_apart P c d is [] x y h = (tt, h)
each_apart P c d is (k ∷ ks) x y h =
    let r = is k (each c ks x) (each d ks y) h in
    let s = each_apart P c d is ks x y r.1 in
    ((r.0, s.0), s.1)

each_same : (c d : ℕ → List ℕ → List ℕ) → ((k : ℕ) (x : List ℕ) → c k x ≡ d k x) →
    (ks : List ℕ) (x : List ℕ) → each c ks x ≡ each d ks x
each_same c d is [] x = refl
each_same c d is (k ∷ ks) x = ap (c k) (each_same c d is ks x) ∙ is k (each d ks x)

-- What holds of each number of a range
all_below : (P : ℕ → Type 0) (from n k : ℕ) → AllByRecursion P (range_with_len from n) → from ≤ k →
    k < from + n → P k
all_below P from zero k all le lt = absurd (omega arith)
all_below P from (suc n) k all le lt =
    by (cases_lt from k) (λ l. all_below P (from + 1) n k all.1 (omega arith) (omega arith))
  where
    by : (from < k) ⊎ (k ≤ from) → (from < k → P k) → P k
    by (inl l) rest = rest l
    by (inr e) rest = subst P (let s : from ≡ k = omega arith in s) all.0

-- What a code reads

-- The code of a thread, an owed retarget and a letter reads no number of a send, nor when something
-- began.

phase_bare : (p : Phase) (x : List ℕ) → phase_code p x ≡ phase_code (timeless_phase p) x
phase_bare Ready x = refl
phase_bare Sending x = refl
phase_bare (Receiving receive since) x = refl
phase_bare Ordering x = refl
phase_bare Ended x = refl
phase_bare Deleted x = refl

send_bare : (o : Option Send) (x : List ℕ) →
    optional send_code o x ≡ optional send_code (option_map timeless_send o) x
send_bare None x = refl
send_bare (Some send) x = refl

thread_bare : (t : Thread) (x : List ℕ) → thread_code t x ≡ thread_code (relative_thread t) x
thread_bare t x =
    ap (context_code t.context) (phase_bare t.phase _
    ∙ ap (phase_code (timeless_phase t.phase)) (send_bare t.send (optional asked_code t.order
    (flag_code t.cancel_send (flag_code t.cancel_receive x)))))

threads_bare : (ts : List Thread) (x : List ℕ) →
    each thread_code ts x ≡ each thread_code (map relative_thread ts) x
threads_bare [] x = refl
threads_bare (t ∷ ts) x =
    ap (thread_code t) (threads_bare ts x)
    ∙ thread_bare t (each thread_code (map relative_thread ts) x)

armed_bare : (clock : ℕ) (es : List (ℕ × ℕ)) (x : List ℕ) →
    chained (armed_code clock) es x ≡ chained (armed_code 0) (map (ahead clock) es) x
armed_bare clock [] x = refl
armed_bare clock (e ∷ es) x =
    λ i. 1 ∷ same i ∷ e.1 ∷ armed_bare clock es x i
  where
    same : e.0 - clock ≡ (e.0 - clock) - 0
    same = omega arith

lists_bare : (count clock : ℕ) (s : Plain) (x : List ℕ) →
    lists_code count clock s x
    ≡ lists_code count 0 (record s { armed = map (ahead clock) s.armed }) x
lists_bare count clock s x =
    ap (λ (ns : List ℕ). sized count (chained waiting_code) s.waiting (chained number_code s.ready ns))
    (armed_bare clock s.armed x)

one_owed_pared : (o : Option Owed) (x : List ℕ) →
    optional owed_code o x ≡ optional owed_code (option_map numberless_owed o) x
one_owed_pared None x = refl
one_owed_pared (Some o) x = refl

owed_pared : (os : List (Option Owed)) (x : List ℕ) →
    each (optional owed_code) os x
    ≡ each (optional owed_code) (map (option_map numberless_owed) os) x
owed_pared [] x = refl
owed_pared (o ∷ os) x =
    ap (optional owed_code o) (owed_pared os x)
    ∙ one_owed_pared o (each (optional owed_code) (map (option_map numberless_owed) os) x)

content_pared : (c : Content) (x : List ℕ) →
    content_code c x ≡ content_code (numberless_content c) x
content_pared (SendLetter s receiver message zero_timeout) x = refl
content_pared (DoneLetter s result) x = refl
content_pared (WithdrawLetter s receiver cause) x = refl
content_pared (GoneLetter id) x = refl
content_pared (OrderLetter caller target what) x = refl
content_pared (OrderDoneLetter caller) x = refl
content_pared (RetargetLetter o) x = refl

pub letters_pared : (ls : List Letter) (x : List ℕ) →
    chained content_code (contents ls) x ≡ chained content_code (pared_contents ls) x
letters_pared [] x = refl
letters_pared (l ∷ ls) x =
    ap (λ (ns : List ℕ). 1 ∷ content_code l.content ns) (letters_pared ls x)
    ∙ ap (λ (ns : List ℕ). 1 ∷ ns)
    (content_pared l.content (chained content_code (pared_contents ls) x))

same_length : {A B : Type 0} (f : A → B) (xs : List A) → length xs ≡ length (map f xs)
same_length f [] = refl
same_length f (x ∷ xs) = ap suc (same_length f xs)

-- What letters tell without numbers
pub contents_pared : (ls : List Letter) → map numberless_content (contents ls) ≡ pared_contents ls
contents_pared [] = refl
contents_pared (l ∷ ls) =
    ap (λ (cs : List Content). numberless_content l.content ∷ cs) (contents_pared ls)

-- The code of a processor reads no stamp and no clock either.
pub local_bare : (count : ℕ) (l : Local) (x : List ℕ) →
    local_code count l x ≡ local_code count (bare_local l) x
local_bare count l x =
    ap (λ (ns : List ℕ). 1 ∷ sized count thread_code l.threads
    (lists_code count l.clock l.lists (sized count number_code l.told ns)))
    (λ i. length_code count (same_length (option_map numberless_owed) l.owed i)
    ∷ owed_pared l.owed x i)
    ∙ ap (λ (ns : List ℕ). 1 ∷ sized count thread_code l.threads ns) (lists_bare count l.clock l.lists
    (sized count number_code l.told
    (sized count (optional owed_code) (map (option_map numberless_owed) l.owed) x)))
    ∙ (λ i. 1 ∷ length_code count (same_length relative_thread l.threads i)
    ∷ threads_bare l.threads (lists_code count 0 (bare_local l).lists (sized count number_code l.told
    (sized count (optional owed_code) (map (option_map numberless_owed) l.owed) x))) i)

-- States

module _ (m : Machine) (g h : System) where
  abbrev AreTold : (from to : ℕ) → Type 0
  AreTold from to = pared_contents (letters g.mail from to) ≡ pared_contents (letters h.mail from to)

  mail_told : (x y : List ℕ) →
      each (mail_to_code (processors m) g.mail) (processors m) x
      ≡ each (mail_to_code (processors m) h.mail) (processors m) y →
      AllByRecursion (λ to. AllByRecursion (λ from. AreTold from to) (processors m)) (processors m)
  mail_told x y e =
      (each_apart _ (mail_to_code (processors m) g.mail) (mail_to_code (processors m) h.mail)
      (λ to x y e. each_apart (λ from. AreTold from to) (mail_from_code g.mail to)
      (mail_from_code h.mail to) (λ from x y e. from_told from to x y e) (processors m) x y e)
      (processors m) x y e).0
    where
      from_told : (from to : ℕ) (x y : List ℕ) →
          mail_from_code g.mail to from x ≡ mail_from_code h.mail to from y →
          AreTold from to × (x ≡ y)
      from_told from to x y e =
          let r = contents_apart (contents (letters g.mail from to))
          (contents (letters h.mail from to)) x y e in (
            sym (contents_pared (letters g.mail from to)) ∙ r.0
                ∙ contents_pared (letters h.mail from to),
            r.1,
          )

  pub told : IsWithin m g → IsWithin m h → code_of m g ≡ code_of m h → IsShifted g h
  told in_g in_h e =
      let locals = locals_apart (length m.threads) m.cpus g.locals h.locals _ _
      (bytes_apart (system_code m g []) (system_code m h []) e) in
      let mail = mail_told [] [] locals.1 in
      are_shifted g h (record {
        locals = locals.0;
        mail = λ from to. by from to (cases_lt from m.cpus) (cases_lt to m.cpus) mail;
      })
    where
      none : (from to : ℕ) → letters g.mail from to ≡ [] → letters h.mail from to ≡ [] →
          AreTold from to
      none from to a b = ap pared_contents a ∙ sym (ap pared_contents b)

      by : (from to : ℕ) → (from < m.cpus) ⊎ (m.cpus ≤ from) → (to < m.cpus) ⊎ (m.cpus ≤ to) →
          AllByRecursion (λ to. AllByRecursion (λ from. AreTold from to) (processors m))
          (processors m) → AreTold from to
      by from to (inl a) (inl b) mail =
          all_below (λ from. AreTold from to) 0 m.cpus from
          (all_below (λ to. AllByRecursion (λ from. AreTold from to) (processors m)) 0 m.cpus to mail
          (omega arith) (omega arith))
          (omega arith) (omega arith)
      by from to (inr a) b mail = none from to (in_g.from from to a) (in_h.from from to a)
      by from to (inl a) (inr b) mail = none from to (in_g.to from to b) (in_h.to from to b)

  locals_same : (count usual : ℕ) (ls ns : List Local) (x : List ℕ) →
      map bare_local ls ≡ map bare_local ns →
      sized usual (local_code count) ls x ≡ sized usual (local_code count) ns x
  locals_same count usual ls ns x e = bare ls ∙ ap (λ ks. sized usual (local_code count) ks x) e
      ∙ sym (bare ns)
    where
      each_bare : (ls : List Local) →
          each (local_code count) ls x ≡ each (local_code count) (map bare_local ls) x
      each_bare [] = refl
      each_bare (l ∷ ls) =
          ap (local_code count l) (each_bare ls)
          ∙ local_bare count l (each (local_code count) (map bare_local ls) x)

      bare : (ls : List Local) →
          sized usual (local_code count) ls x
          ≡ sized usual (local_code count) (map bare_local ls) x
      bare ls = λ i. length_code usual (same_length bare_local ls i) ∷ each_bare ls i

  pub same_code : IsShifted g h → code_of m g ≡ code_of m h
  same_code similar =
      let a = are_bare g h similar in
      ap bytes_of
      (ap (sized m.cpus (local_code (length m.threads)) g.locals)
      (each_same (mail_to_code (processors m) g.mail) (mail_to_code (processors m) h.mail)
      (λ to x. each_same (mail_from_code g.mail to) (mail_from_code h.mail to)
      (λ from x. letters_pared (letters g.mail from to) x
      ∙ ap (λ (cs : List Content). chained content_code cs x) (a.mail from to)
      ∙ sym (letters_pared (letters h.mail from to) x))
      (processors m) x)
      (processors m) [])
      ∙ locals_same (length m.threads) m.cpus g.locals h.locals _ a.locals)

pub are_coded : (m : Machine) → IsMachine m → IsCoded m
are_coded m machine g h in_g in_h = (
  told m g h (reached_within m g machine in_g) (reached_within m h machine in_h),
  same_code m g h,
)
