-- The words of a command that takes a number are no shorter than its own word.
use Rattle.std.proofs.Common.{◌≡◌, ℕ, ◌*◌, ◌≤◌, List, [], ◌∷◌, true, false, cond, codes, Ok, Err, Result, IfOk, refl, ap, arith, length}
use Rattle.std.proofs.lemmas.Slice.Eq.{bytes_eq-Decides}
use Rattle.std.specs.Str.{bytes_eq}
use Rattle.tx_model.specs.declared.command.Command.{Command}
use Rattle.tx_model.specs.declared.command.Command.TheVariants as commands
use Rattle.tx_model.specs.declared.command.Pair.{Pair}
use Rattle.script_lines.specs.declared.kind.Kind.{Kind}
use Rattle.script_lines.specs.Arguments.{asked_id_in, id_in, multi_in, name_in, none_of, one_of, stored_in, two_of}
use Rattle.script_lines.specs.Commands.{alone, command_at, command_in, long_command, only_name, see_in, see_multi_in}
use Rattle.script_lines.specs.Kinds.{◌>>=◌}
use Rattle.script_lines.specs.Members.{pairs_in}
use Rattle.run_law.specs.Turns.{takes_number}
use Rattle.run_law.proofs.Sizes.{size_of}
use Rattle.run_law.proofs.Steps.{behind, either_holds}

-- such a command has five bytes, the one behind its word among them
abbrev pub HasRoom : List (List ℕ) → Command → Type 0
HasRoom ws c = 5 * cond (takes_number c) 1 0 ≤ size_of ws

abbrev MakesNone : Command → Type 0
MakesNone c = takes_number c ≡ false

see_none : (ws : List (List ℕ)) → IfOk (see_in ws) MakesNone
unfolding see_in
see_none ws = behind MakesNone (two_of ws) _ (λ two. behind MakesNone (name_in two.0) _ (λ name. behind MakesNone (stored_in 0 two.1) _ (λ x. refl)))

see_multi_none : (ws : List (List ℕ)) → IfOk (see_multi_in ws) MakesNone
unfolding see_multi_in
see_multi_none ws = behind MakesNone (two_of ws) _ (λ two. behind MakesNone (name_in two.0) _ (λ name. behind MakesNone (stored_in 1 two.1) _ (λ m. refl)))

none_has_room : (c : Command) (ws : List (List ℕ)) → takes_number c ≡ false → HasRoom ws c
none_has_room c ws e = rw e (omega arith)

none_have_room : (ws : List (List ℕ)) (r : Result Command Kind) → IfOk r MakesNone → IfOk r (HasRoom ws)
none_have_room ws (Ok c) e = none_has_room c ws e
none_have_room ws (Err k) e = tt

-- the word `multi`
multi_room : (w : List ℕ) (ws : List (List ℕ)) (members : List Pair) → bytes_eq w (codes "multi") ≡ true → HasRoom (w ∷ ws) (commands.Multi members)
multi_room w ws members e = let size : length w ≡ 5 = ap length ((bytes_eq-Decides w (codes "multi")).0 e) in omega arith

long_room : (w : List ℕ) (ws : List (List ℕ)) → IfOk (long_command w ws) (HasRoom (w ∷ ws))
unfolding long_command
long_room w ws =
    either_holds (HasRoom (w ∷ ws)) (bytes_eq w (codes "snap")) _ _ (λ _. none_have_room (w ∷ ws) _ (behind MakesNone (only_name ws) (λ name. Ok (commands.Snap name)) (λ _. refl))) (λ _.
    either_holds (HasRoom (w ∷ ws)) (bytes_eq w (codes "drop")) _ _ (λ _. none_have_room (w ∷ ws) _ (behind MakesNone (only_name ws) (λ name. Ok (commands.DropSnap name)) (λ _. refl))) (λ _.
    either_holds (HasRoom (w ∷ ws)) (bytes_eq w (codes "see")) _ _ (λ _. none_have_room (w ∷ ws) _ (see_none ws)) (λ _.
    either_holds (HasRoom (w ∷ ws)) (bytes_eq w (codes "status")) _ _ (λ _. none_have_room (w ∷ ws) _ (behind MakesNone (one_of ws >>= asked_id_in) (λ x. Ok (commands.Status x)) (λ _. refl))) (λ _.
    either_holds (HasRoom (w ∷ ws)) (bytes_eq w (codes "did")) _ _ (λ _. none_have_room (w ∷ ws) _ (behind MakesNone (one_of ws >>= stored_in 0) (λ x. Ok (commands.Did (record { number = x }))) (λ _. refl))) (λ _.
    either_holds (HasRoom (w ∷ ws)) (bytes_eq w (codes "multi")) _ _ (λ e. behind (HasRoom (w ∷ ws)) (pairs_in ws) (λ members. Ok (commands.Multi members)) (λ members. multi_room w ws members e)) (λ _.
    either_holds (HasRoom (w ∷ ws)) (bytes_eq w (codes "seemulti")) _ _ (λ _. none_have_room (w ∷ ws) _ (see_multi_none ws)) (λ _.
    either_holds (HasRoom (w ∷ ws)) (bytes_eq w (codes "freeze")) _ _ (λ _. none_have_room (w ∷ ws) _ (behind MakesNone (one_of ws >>= id_in) (λ x. Ok (commands.Freeze x)) (λ _. refl))) (λ _.
    either_holds (HasRoom (w ∷ ws)) (bytes_eq w (codes "multifreeze")) _ _ (λ _. none_have_room (w ∷ ws) _ (behind MakesNone (one_of ws >>= multi_in) (λ m. Ok (commands.MultiFreeze m)) (λ _. refl))) (λ _. tt)))))))))

alone_has : (c : Command) (w : List ℕ) (ws : List (List ℕ)) → HasRoom (w ∷ ws) c → IfOk (alone c ws) (HasRoom (w ∷ ws))
alone_has c w ws h = behind (HasRoom (w ∷ ws)) (none_of ws) (λ _. Ok c) (λ _. h)

alone_none : (c : Command) (w : List ℕ) (ws : List (List ℕ)) → takes_number c ≡ false → IfOk (alone c ws) (HasRoom (w ∷ ws))
alone_none c w ws e = alone_has c w ws (none_has_room c (w ∷ ws) e)

begin_room : (w : List ℕ) (ws : List (List ℕ)) → bytes_eq w (codes "begin") ≡ true → HasRoom (w ∷ ws) commands.Begin
begin_room w ws e = let size : length w ≡ 5 = ap length ((bytes_eq-Decides w (codes "begin")).0 e) in omega arith

save_room : (w : List ℕ) (ws : List (List ℕ)) → bytes_eq w (codes "save") ≡ true → HasRoom (w ∷ ws) commands.Save
save_room w ws e = let size : length w ≡ 4 = ap length ((bytes_eq-Decides w (codes "save")).0 e) in omega arith

any_room : (w : List ℕ) (ws : List (List ℕ)) → IfOk (command_in w ws) (HasRoom (w ∷ ws))
unfolding command_in
any_room w ws =
    either_holds (HasRoom (w ∷ ws)) (bytes_eq w (codes "begin")) _ _ (λ e. alone_has commands.Begin w ws (begin_room w ws e)) (λ _.
    either_holds (HasRoom (w ∷ ws)) (bytes_eq w (codes "write")) _ _ (λ _. alone_none commands.Write w ws refl) (λ _.
    either_holds (HasRoom (w ∷ ws)) (bytes_eq w (codes "commit")) _ _ (λ _. alone_none commands.Commit w ws refl) (λ _.
    either_holds (HasRoom (w ∷ ws)) (bytes_eq w (codes "abort")) _ _ (λ _. alone_none commands.Abort w ws refl) (λ _.
    either_holds (HasRoom (w ∷ ws)) (bytes_eq w (codes "save")) _ _ (λ e. alone_has commands.Save w ws (save_room w ws e)) (λ _.
    either_holds (HasRoom (w ∷ ws)) (bytes_eq w (codes "release")) _ _ (λ _. alone_none commands.Release w ws refl) (λ _.
    either_holds (HasRoom (w ∷ ws)) (bytes_eq w (codes "undo")) _ _ (λ _. alone_none commands.Undo w ws refl) (λ _.
    either_holds (HasRoom (w ∷ ws)) (bytes_eq w (codes "trim")) _ _ (λ _. alone_none commands.Trim w ws refl) (λ _.
    either_holds (HasRoom (w ∷ ws)) (bytes_eq w (codes "horizon")) _ _ (λ _. alone_none commands.Horizon w ws refl) (λ _.
    long_room w ws)))))))))

pub command_room : (ws : List (List ℕ)) → IfOk (command_at ws) (HasRoom ws)
command_room [] = tt
command_room (w ∷ ws) = any_room w ws
