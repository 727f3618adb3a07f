-- A script that is being written.
use Rattle.std.specs.Prelude.{◌≡◌, ℕ, ◌++◌, List}
use Rattle.session_lang.specs.declared.script.Item.{Item}
use Rattle.script_gen.specs.declared.writer.Writer.{Writer}

-- It has these items more, and the draws stand so.
pub record Adds (before after : Writer) (state : ℕ) (more : List Item) : Type 0 where
  pub state_is : after.draws.state ≡ state
  pub items_are : after.items ≡ before.items ++ more
