-- The kinds of faults, and reading with them: the first step that has a fault gives its kind.
use Rattle.std.specs.Prelude.{◌≡◌, ℕ, List, codes, Bool, cond, Result, Ok, Err}
use Rattle.script_lines.specs.declared.kind.Kind.{Kind}
use Rattle.script_lines.specs.declared.kind.Kind.TheVariants as kinds
use Rattle.script_lines.specs.declared.kind.Stop.{Stop}
use Rattle.script_lines.specs.declared.kind.Stop.TheVariants as stops

unfoldable pub kind_word : Kind → List ℕ
kind_word kinds.Size = codes "size"
kind_word kinds.Byte = codes "byte"
kind_word kinds.Directive = codes "directive"
kind_word kinds.Session = codes "session"
kind_word kinds.Command = codes "command"
kind_word kinds.Arguments = codes "arguments"
kind_word kinds.Name = codes "name"
kind_word kinds.Mode = codes "mode"
kind_word kinds.Number = codes "number"
kind_word kinds.Limit = codes "limit"
kind_word kinds.Base = codes "base"

-- one step after the other, up to the first fault
infixl 10 ◌>>=◌
abbrev pub ◌>>=◌ : {A B F : Type 0} → Result A F → (A → Result B F) → Result B F
(Ok x) >>= f = f x
(Err k) >>= f = Err k

-- this fault, where the test holds
abbrev pub fault_if : {F : Type 0} → Bool → F → Result (Unit {0}) F
fault_if b k = cond b (Err k) (Ok tt)

-- an answer, its value seen so
abbrev pub seen : {X Y F : Type 0} → (X → Y) → Result X F → Result Y F
seen view (Ok x) = Ok (view x)
seen view (Err k) = Err k

-- a reader gives what reading gives, but for want of memory
abbrev pub Gives : {X Y : Type 0} → (X → Y) → Result X Stop → Result Y Kind → Type 0
Gives view (Ok x) read = read ≡ Ok (view x)
Gives view (Err (stops.Fault kind)) read = read ≡ Err kind
Gives view (Err stops.Memory) read = Unit {0}
