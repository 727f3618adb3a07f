-- The commands of a session lead from one transaction to the next.
use Rattle.std.proofs.Common.{◌≡◌, ℕ, Bool, true, false, List, [], ◌∷◌, ◌++◌, Option, None, Some, append_assoc, refl, sym, ap, ◌∙◌}
use Rattle.std.specs.List.{flat_map}
use Rattle.tx_model.specs.declared.command.Command.{Command}
use Rattle.script_gen.specs.Choices.{Choices}
use Rattle.script_gen.specs.Generated.{end_command, look_commands, savepoint_commands, transaction}
use Rattle.run_report.proofs.Goes.{Given, Outside, Place, next}

abbrev pub run_from : Option Place → List Command → Option Place
run_from None all = None
run_from (Some p) [] = Some p
run_from (Some p) (c ∷ all) = run_from (next p c) all

from_none : (all : List Command) → run_from None all ≡ None
from_none [] = refl
from_none (c ∷ all) = refl

-- one command more
abbrev pub step_from : Option Place → Command → Option Place
step_from None c = None
step_from (Some p) c = next p c

run_alone : (o : Option Place) → run_from o [] ≡ o
run_alone None = refl
run_alone (Some p) = refl

pub run_push : (o : Option Place) (all : List Command) (c : Command) → run_from o (all ++ c ∷ []) ≡ step_from (run_from o all) c
run_push None all c = from_none (all ++ c ∷ []) ∙ sym (ap (λ o. step_from o c) (from_none all))
run_push (Some p) [] c = run_alone (next p c)
run_push (Some p) (d ∷ all) c = run_push (next p d) all c

-- a place that was stepped to was stepped to from one
pub record Stepped (o : Option Place) (c : Command) (q : Place) : Type 0 where
  pub from : Place
  pub was : o ≡ Some from
  pub goes : next from c ≡ Some q

pub stepped : (o : Option Place) (c : Command) (q : Place) → step_from o c ≡ Some q → Stepped o c q
stepped None c q e = absurd cc
stepped (Some p) c q e = record { from = p; was = refl; goes = e }

savepoints_run : (undone : List Bool) (rest : List Command) → run_from (Some Given) (flat_map savepoint_commands undone ++ rest) ≡ run_from (Some Given) rest
savepoints_run [] rest = refl
savepoints_run (true ∷ undone) rest = savepoints_run undone rest
savepoints_run (false ∷ undone) rest = savepoints_run undone rest

end_run : (x : ℕ) (aborted : Bool) (rest : List Command) → run_from (Some Given) ((look_commands x ++ end_command aborted ∷ []) ++ rest) ≡ run_from (Some Outside) rest
end_run x true rest = refl
end_run x false rest = refl

transaction_run : (c : Choices) (rest : List Command) → run_from (Some Outside) (transaction c ++ rest) ≡ run_from (Some Outside) rest
transaction_run c rest =
    let ending = look_commands c.seen ++ end_command c.aborted ∷ [] in
    ap (run_from (Some Given)) (append_assoc (flat_map savepoint_commands c.undone) ending rest)
    ∙ savepoints_run c.undone (ending ++ rest) ∙ end_run c.seen c.aborted rest

pub transactions_run : (drawn : List Choices) → run_from (Some Outside) (flat_map transaction drawn) ≡ Some Outside
transactions_run [] = refl
transactions_run (c ∷ drawn) = transaction_run c (flat_map transaction drawn) ∙ transactions_run drawn
