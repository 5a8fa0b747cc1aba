-- The ids, tags and times of the manual (X.2), and the words that stand for them in its two
-- formats. A section of the manual is named by its title; a rule that names none is this project's
-- own, and so is what is marked own beside one.
use Rattle.std.specs.Prelude.{ℕ, ◌+◌, ◌*◌, ◌/◌, ◌%◌, ◌^◌, ◌-◌, Bool, true, false, if◌then◌else◌, ◌==◌, not, ◌&&◌, nat_lt, Option, Some, None}

-- The formats of words (manual: ThreadId, MsgTag): of 64 bits, and of 32.
pub data Format : Type 0 where
  W64 : Format
  W32 : Format

-- Words of a format are below it.
abbrev pub word_limit : Format → ℕ
word_limit W64 = 2 ^ 64
word_limit W32 = 2 ^ 32

abbrev pub is_word_in : Format → ℕ → Bool
is_word_in f word = nat_lt word (word_limit f)

abbrev pub same_format : Format → Format → Bool
same_format W64 W64 = true
same_format W32 W32 = true
same_format f g = false

-- In the word of a global id the thread number stands above the version (manual: ThreadId), each
-- below these limits: 32 bits and 32 bits, or 18 bits and 14 bits.

abbrev pub number_limit : Format → ℕ
number_limit W64 = 2 ^ 32
number_limit W32 = 2 ^ 18

abbrev pub version_limit : Format → ℕ
version_limit W64 = 2 ^ 32
version_limit W32 = 2 ^ 14

-- A global thread id (manual: ThreadId): a thread number and a version.
pub record GlobalId : Type 0 where
  pub number : ℕ
  pub version : ℕ

-- Any thread id (manual: ThreadId), one value whatever the format of words. A local id has no other
-- meaning here than its word: it names nobody, and has the same word in both formats.
pub data Id : Type 0 where
  NilThread : Id
  AnyThread : Id
  AnyLocalThread : Id
  LocalThread : (word : ℕ) → Id
  GlobalThread : GlobalId → Id

abbrev pub same_id : GlobalId → GlobalId → Bool
same_id a b = (a.number == b.number) && (a.version == b.version)

-- It is the same id.
abbrev pub is_same : Id → Id → Bool
is_same NilThread NilThread = true
is_same AnyThread AnyThread = true
is_same AnyLocalThread AnyLocalThread = true
is_same (LocalThread a) (LocalThread b) = a == b
is_same (GlobalThread a) (GlobalThread b) = same_id a b
is_same a b = false

-- The id is that of this thread alone.
abbrev pub is_id_of : Id → GlobalId → Bool
is_id_of (GlobalThread t) thread = same_id t thread
is_id_of _ thread = false

abbrev pub global_id : (number version : ℕ) → GlobalId
global_id number version = record { number = number; version = version }

-- Which numbers make a global id of a format (manual: ThreadId): those that have room in its word,
-- where the low six bits of the version are not all zero. The word of all ones is anythread.
abbrev pub is_global_in : Format → GlobalId → Bool
is_global_in f t =
    nat_lt t.number (number_limit f) && nat_lt t.version (version_limit f) &&
    not (t.version % 64 == 0)
    && not (t.number == number_limit f - 1 && t.version == version_limit f - 1)

-- Every global id of 32 bits is one of 64 bits, so the 64-bit rule defines them all.
abbrev pub is_global : GlobalId → Bool
is_global t = is_global_in W64 t

-- Which ids have a word of a format. In 32 bits 0xffffffc0 is anylocalthread and 0xffffffff is
-- anythread. So the local id 0xffffffc0 and the global id 262143.16383 have no word there.
abbrev pub has_word_in : Format → Id → Bool
has_word_in f (LocalThread word) = nat_lt word (word_limit f) && not (word == 0) &&
    not (word == word_limit f - 64) && word % 64 == 0
has_word_in f (GlobalThread t) = is_global_in f t
has_word_in f id = true

-- The word of an id in a format that has one for it (manual: ThreadId).
abbrev pub word_by : Format → Id → ℕ
word_by f NilThread = 0
word_by f AnyThread = word_limit f - 1
word_by f AnyLocalThread = word_limit f - 64
word_by f (LocalThread word) = word
word_by f (GlobalThread t) = t.number * version_limit f + t.version

abbrev pub word_in : Format → Id → Option ℕ
word_in f id = if has_word_in f id then Some (word_by f id) else None

abbrev pub word_of : Id → ℕ
word_of id = word_by W64 id

-- The id that a word of a format stands for (manual: ThreadId).
abbrev pub id_by : Format → ℕ → Id
id_by f word =
    if word == 0 then NilThread
    else if word == word_limit f - 1 then AnyThread
    else if word == word_limit f - 64 then AnyLocalThread
    else if word % 64 == 0 then LocalThread word
    else GlobalThread (record { number = word / version_limit f; version = word % version_limit f })

-- None where it is no word of the format.
abbrev pub id_in : Format → ℕ → Option Id
id_in f word = if nat_lt word (word_limit f) then Some (id_by f word) else None

abbrev pub id_of_word : ℕ → Id
id_of_word word = id_by W64 word

-- A message tag (manual: Messages and Message Registers, MsgTag): its label, of 48 bits or of 16,
-- its four flags, and the number of its untyped words. The number of typed words, bits 6 to 11, is
-- 0. Of the flags bit 0 is `p`, 1 `r`, 2 `X` and 3 `E`. Its word has the same bits in both formats,
-- so a tag fits a format exactly where its label does.
pub record MessageTag : Type 0 where
  pub label : ℕ
  pub flags : ℕ
  pub untyped : ℕ

abbrev pub tag_of_word : ℕ → MessageTag
tag_of_word word = record {
  label = word / 2 ^ 16;
  flags = (word / 2 ^ 12) % 16;
  untyped = word % 64;
}

abbrev pub word_of_tag : MessageTag → ℕ
word_of_tag tag = tag.label * 2 ^ 16 + tag.flags * 2 ^ 12 + tag.untyped

-- A thread has message registers 0 to 63 (manual: Messages and Message Registers). The first has
-- the tag, so a message has at most 63 untyped words.
abbrev pub register_count : ℕ
register_count = 64

abbrev pub last_register : ℕ
last_register = register_count - 1

-- Labels have the bits of a word from bit 16 on (manual: Messages and Message Registers, MsgTag):
-- 48 of them or 16. Each is below its limit.
abbrev pub label_limit_in : Format → ℕ
label_limit_in W64 = 2 ^ 48
label_limit_in W32 = 2 ^ 16

abbrev pub label_limit : ℕ
label_limit = label_limit_in W64

-- Clocks and stamps are below it (own).
abbrev pub clock_limit : ℕ
clock_limit = 2 ^ 62

-- The longest period that a time has (manual: Time) is of 1023 * 2^31 ticks, so each is below it.
abbrev pub period_limit : ℕ
period_limit = 2 ^ 42

-- A period in ticks of a processor's clock, of a microsecond each (manual: Time; the ticks are
-- own). None is never.
abbrev pub Period : Type 0
Period = Option ℕ

-- What a time of 16 bits means where bit 15 is zero (manual: Time): 0 never, else the mantissa,
-- bits 0 to 9, times the power of two of the exponent, bits 10 to 14. A mantissa of 0 with another
-- exponent than 0 means zero (own, but for exponent 1).
abbrev pub period_of : ℕ → Period
period_of time = if time == 0 then None else Some (2 ^ (time / 1024) * (time % 1024))

-- Bits 6 to 11 of a tag (manual: Messages and Message Registers, MsgTag) count typed words, which
-- are left out.
abbrev pub has_typed_words : ℕ → Bool
has_typed_words word = not ((word / 2 ^ 6) % 64 == 0)

-- The period of a time (manual: Time). Bit 15 set would be a point in time, which is left out.
abbrev pub time_of : ℕ → Option Period
time_of time = if nat_lt time (2 ^ 15) then Some (period_of time) else None

-- A word of timeouts (manual: Ipc): the send time in bits 16 to 31, the receive time in bits 0 to
-- 15.

abbrev pub send_time : ℕ → ℕ
send_time timeouts = timeouts / 2 ^ 16

abbrev pub receive_time : ℕ → ℕ
receive_time timeouts = timeouts % 2 ^ 16

abbrev pub timeouts_of : ℕ → Option (Period × Period)
timeouts_of timeouts = both (time_of (send_time timeouts)) (time_of (receive_time timeouts))
  where
    both : Option Period → Option Period → Option (Period × Period)
    both (Some send) (Some receive) = Some (send, receive)
    both _ _ = None
