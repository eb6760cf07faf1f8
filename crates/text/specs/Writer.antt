-- What a writer does. Definitions only.
use Rattle.std.specs.Prelude.{ℕ, ◌≡◌, List}
use Rattle.text.specs.Write.{Written}
use Rattle.text.specs.declared.write.Writer.{Writer}

-- `w` has written `text`, and is `w'` after it: the buffer is the same one, and the text stands in it from the writer's place on.
pub record Writes (w : Writer) (text : List ℕ) (w' : Writer) : Type 0 where
  pub same_buffer : w'.out.ghost_name ≡ w.out.ghost_name
  pub written : Written w.out.now w.at text w'.at w'.out.now
