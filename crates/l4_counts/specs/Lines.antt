-- The lines that tell what each thread did.
use Rattle.std.specs.Prelude.{ℕ, List, ◌++◌, flat_map, codes, decimal}
use Rattle.l4_model.specs.Words.{GlobalId}
use Rattle.l4_model.specs.Machine.{Machine, Declaration}
use Rattle.l4_model.specs.Steps.{Step}
use Rattle.l4_words.specs.Threads.{thread_word}
use Rattle.l4_counts.specs.declared.counts.Counts.{Counts}
use Rattle.l4_counts.specs.Counts.{counts_of}

-- What a thread did. A space goes before each word.
abbrev pub done_text : Counts → List ℕ
done_text c =
    codes " turns " ++ decimal c.turns ++ codes " sends " ++ decimal c.sends
    ++ codes " delivered " ++ decimal c.delivered ++ codes " received " ++ decimal c.received

-- How many ipcs of a thread failed with each ErrorCode.

abbrev pub first_codes : Counts → List ℕ
first_codes c =
    codes " 2:" ++ decimal c.send_timeouts ++ codes " 3:" ++ decimal c.receive_timeouts
    ++ codes " 4:" ++ decimal c.sends_to_nobody

abbrev pub last_codes : Counts → List ℕ
last_codes c =
    codes " 5:" ++ decimal c.receives_from_nobody ++ codes " 6:" ++ decimal c.sends_cancelled
    ++ codes " 7:" ++ decimal c.receives_cancelled

abbrev pub refused_text : Counts → List ℕ
refused_text c = codes " refused" ++ first_codes c ++ last_codes c

abbrev pub counts_line : GlobalId → Counts → List ℕ
counts_line id c =
    codes "counts" ++ codes " " ++ thread_word id ++ done_text c ++ refused_text c ++ codes "\n"

-- A line for each thread, in order of declaration.
abbrev pub counts_text : Machine → List Step → List ℕ
counts_text m steps =
    flat_map (λ (d : Declaration). counts_line d.id (counts_of d.id steps)) m.threads
