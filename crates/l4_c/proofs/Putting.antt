-- What a buffer has where nothing is put to it.
use Rattle.std.proofs.Common.{◌≡◌, ℕ, Bool, true, false, List, [], refl}
use Rattle.std.specs.Prelude.{if◌then◌else◌, length, nat_lt}
use Rattle.l4_c.specs.Answers.{put_in}

either : (is_small : Bool) (buffer : List ℕ) → (if is_small then buffer else buffer) ≡ buffer
either true buffer = refl
either false buffer = refl

pub put_nothing : (buffer : List ℕ) → put_in [] buffer ≡ buffer
put_nothing buffer = either (nat_lt (length buffer) 0) buffer
