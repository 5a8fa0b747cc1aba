-- Worked rows: words, tags and times.
use Rattle.std.specs.Prelude.{◌≡◌, ℕ, ◌*◌, ◌^◌, Bool, true, false, Some, None, [], ◌∷◌, refl}
use Rattle.l4_model.specs.Words.{W64, W32, NilThread, AnyThread, AnyLocalThread, LocalThread, GlobalThread, global_id, is_global, is_global_in, word_of, word_in, id_of_word, id_in, word_limit, label_limit_in, word_of_tag, tag_of_word, period_of}
use Rattle.l4_model.specs.World.{Message}
use Rattle.l4_model.specs.Rules.{received_tag}
use Rattle.l4_model.proofs.Rows.Writing.{thread, id}

words : (word_of (id 1) ≡ 0x0000000100000001) × (word_of (GlobalThread (global_id 2 65)) ≡ 0x0000000200000041) × (word_of NilThread ≡ 0) × (word_of AnyThread ≡ 0xFFFFFFFFFFFFFFFF) × (word_of AnyLocalThread ≡ 0xFFFFFFFFFFFFFFC0)
words = (refl, refl, refl, refl, refl)

ids : (id_of_word 0x0000000100000001 ≡ id 1) × (id_of_word 0x0000000200000041 ≡ GlobalThread (global_id 2 65)) × (id_of_word 0 ≡ NilThread) × (id_of_word 0xFFFFFFFFFFFFFFFF ≡ AnyThread) × (id_of_word 0xFFFFFFFFFFFFFFC0 ≡ AnyLocalThread) × (id_of_word 0x40 ≡ LocalThread 0x40)
ids = (refl, refl, refl, refl, refl, refl)

-- The low six bits of a version are not all zero, and the word of all ones is anythread. Number 0 is lawful.
lawful : (is_global (global_id 2 65) ≡ true) × (is_global (global_id 0 1) ≡ true) × (is_global (global_id 1 64) ≡ false) × (is_global (global_id 1 0) ≡ false) × (is_global (global_id 4294967295 4294967295) ≡ false)
    × (is_global (global_id 4294967296 1) ≡ false) × (is_global (global_id 1 4294967297) ≡ false)
lawful = (refl, refl, refl, refl, refl, refl, refl)

-- In 32 bits the version takes 14 bits, and what stands above it is the number.
short_words : (word_in W32 (id 1) ≡ Some 0x4001) × (word_in W32 (GlobalThread (global_id 2 65)) ≡ Some 0x8041) × (word_in W32 (GlobalThread (global_id 262143 16382)) ≡ Some 0xFFFFFFFE)
    × (word_in W32 NilThread ≡ Some 0) × (word_in W32 AnyThread ≡ Some 0xFFFFFFFF) × (word_in W32 AnyLocalThread ≡ Some 0xFFFFFFC0) × (word_in W32 (LocalThread 0x40) ≡ Some 0x40) × (word_in W64 (LocalThread 0x40) ≡ Some 0x40)
short_words = (refl, refl, refl, refl, refl, refl, refl, refl)

short_ids : (id_in W32 0x4001 ≡ Some (id 1)) × (id_in W32 0x8041 ≡ Some (GlobalThread (global_id 2 65))) × (id_in W32 0xFFFFFFFE ≡ Some (GlobalThread (global_id 262143 16382)))
    × (id_in W32 0 ≡ Some NilThread) × (id_in W32 0xFFFFFFFF ≡ Some AnyThread) × (id_in W32 0xFFFFFFC0 ≡ Some AnyLocalThread) × (id_in W32 0x40 ≡ Some (LocalThread 0x40)) × (id_in W32 0x100000000 ≡ None) × (id_in W32 0x100000001 ≡ None)
short_ids = (refl, refl, refl, refl, refl, refl, refl, refl, refl)

-- Ids of 64 bits that 32 bits have no word for: a number or a version is too wide, or the word is another id's.
wide_ids : (word_in W32 (GlobalThread (global_id 262143 16383)) ≡ None) × (word_in W32 (GlobalThread (global_id 262144 1)) ≡ None) × (word_in W32 (GlobalThread (global_id 1 16385)) ≡ None)
    × (word_in W32 (LocalThread 0xFFFFFFC0) ≡ None) × (word_in W32 (LocalThread 0x100000000) ≡ None)
    × (word_in W64 (GlobalThread (global_id 262143 16383)) ≡ Some 0x0003FFFF00003FFF) × (word_in W64 (LocalThread 0xFFFFFFC0) ≡ Some 0xFFFFFFC0)
wide_ids = (refl, refl, refl, refl, refl, refl, refl)

short_lawful : (is_global_in W32 (global_id 262143 16382) ≡ true) × (is_global_in W32 (global_id 0 1) ≡ true) × (is_global_in W32 (global_id 262143 16383) ≡ false) × (is_global_in W32 (global_id 262144 1) ≡ false) × (is_global_in W32 (global_id 1 16385) ≡ false)
    × (is_global_in W32 (global_id 1 64) ≡ false)
short_lawful = (refl, refl, refl, refl, refl, refl)

-- The greatest label of 32 bits with the most words.
short_tags : (word_of_tag (record { label = 65535; flags = 0; untyped = 63 }) ≡ 0xFFFF003F) × (label_limit_in W32 ≡ 65536) × (word_limit W32 ≡ label_limit_in W32 * 2 ^ 16) × (word_limit W64 ≡ label_limit_in W64 * 2 ^ 16)
short_tags = (refl, refl, refl, refl)

tags : (word_of_tag (record { label = 7; flags = 0; untyped = 1 }) ≡ 0x70001) × (word_of_tag (record { label = 0xFFFFFFFFFFFF; flags = 0; untyped = 63 }) ≡ 0xFFFFFFFFFFFF003F) × (tag_of_word 0x51001 ≡ record { label = 5; flags = 1; untyped = 1 })
tags = (refl, refl, refl)

abbrev message : ℕ → Bool → Message
message label propagated = record { label = label; words = 0 ∷ []; propagated = propagated; shown = thread 1; actual = thread 2 }

-- Received across processors, and on one; propagated, and ordinary.
received_tags : (received_tag true (message 7 false) ≡ 0x74001) × (received_tag false (message 7 false) ≡ 0x70001) × (received_tag false (message 5 true) ≡ 0x51001) × (received_tag false (message 5 false) ≡ 0x50001) × (received_tag true (message 5 true) ≡ 0x55001)
received_tags = (refl, refl, refl, refl, refl)

-- Never, zero in three spellings, 5 ticks, 24 ticks, and the longest.
times : (period_of 0 ≡ None) × (period_of 0x0400 ≡ Some 0) × (period_of 0x0800 ≡ Some 0) × (period_of 0x7c00 ≡ Some 0) × (period_of 5 ≡ Some 5) × (period_of 0x0c03 ≡ Some 24) × (period_of 0x7fff ≡ Some 2196875771904)
times = (refl, refl, refl, refl, refl, refl, refl)
