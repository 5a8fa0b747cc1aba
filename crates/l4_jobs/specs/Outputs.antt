-- What a job comes to, before anything of it is written.
use Rattle.std.specs.Prelude.{ℕ, Option, List}
use Rattle.std.specs.Option.{option_map}
use Rattle.l4_jobs.specs.declared.done.Done.{Done}
use Rattle.l4_jobs.specs.declared.done.Kept.{Kept}

pub record Output : Type 0 where
  -- what goes to the output
  pub lines : List ℕ
  -- the name of the file of a record, and the list that goes there
  pub list : Option (List ℕ × List ℕ)
  -- what goes to the faults behind the lines, or nothing
  pub said : List ℕ
  pub status : ℕ

-- A list, and the name of its file.
abbrev pub list_of : Option Kept → Option (List ℕ × List ℕ)
list_of kept = option_map (λ k. (k.name.now, k.text.items)) kept

abbrev pub output_of : Done → Output
output_of done = record {
  lines = done.lines.items;
  list = list_of done.list;
  said = done.said.items;
  status = done.status;
}
