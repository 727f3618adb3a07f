-- A line whose command ends nothing leaves what the last commit and the last abort were answered.
use Rattle.std.proofs.Common.{◌≡◌, Bool, refl, ap, sym}
use Rattle.tx_model.specs.declared.command.Command.{Command}
use Rattle.tx_model.specs.declared.command.Command.TheVariants as commands
use Rattle.tx_model.specs.declared.reply.Reply.{Reply}
use Rattle.record_rules.specs.Answered.{abort_after, commit_after}

pub commit_stays : (old : Bool) (c : Command) (r : Reply) → (c ≡ commands.Commit → ⊥) → old ≡ commit_after old c r
commit_stays old commands.Begin r other = refl
commit_stays old commands.Save r other = refl
commit_stays old commands.Write r other = refl
commit_stays old commands.Release r other = refl
commit_stays old commands.Undo r other = refl
commit_stays old commands.Commit r other = absurd (other refl)
commit_stays old commands.Abort r other = refl
commit_stays old commands.Trim r other = refl
commit_stays old commands.Horizon r other = refl
commit_stays old (commands.Snap name) r other = refl
commit_stays old (commands.DropSnap name) r other = refl
commit_stays old (commands.See name x) r other = refl
commit_stays old (commands.Status x) r other = refl
commit_stays old (commands.Did x) r other = refl
commit_stays old (commands.Multi members) r other = refl
commit_stays old (commands.SeeMulti name multi) r other = refl
commit_stays old (commands.Freeze oldest) r other = refl
commit_stays old (commands.MultiFreeze multi) r other = refl

pub abort_stays : (old : Bool) (c : Command) (r : Reply) → (c ≡ commands.Abort → ⊥) → old ≡ abort_after old c r
abort_stays old commands.Begin r other = refl
abort_stays old commands.Save r other = refl
abort_stays old commands.Write r other = refl
abort_stays old commands.Release r other = refl
abort_stays old commands.Undo r other = refl
abort_stays old commands.Commit r other = refl
abort_stays old commands.Abort r other = absurd (other refl)
abort_stays old commands.Trim r other = refl
abort_stays old commands.Horizon r other = refl
abort_stays old (commands.Snap name) r other = refl
abort_stays old (commands.DropSnap name) r other = refl
abort_stays old (commands.See name x) r other = refl
abort_stays old (commands.Status x) r other = refl
abort_stays old (commands.Did x) r other = refl
abort_stays old (commands.Multi members) r other = refl
abort_stays old (commands.SeeMulti name multi) r other = refl
abort_stays old (commands.Freeze oldest) r other = refl
abort_stays old (commands.MultiFreeze multi) r other = refl

pub commit_told : (old : Bool) (c : Command) (r : Reply) → c ≡ commands.Commit → commit_after old commands.Commit r ≡ commit_after old c r
commit_told old c r is = ap (λ (x : Command). commit_after old x r) (sym is)

pub abort_told : (old : Bool) (c : Command) (r : Reply) → c ≡ commands.Abort → abort_after old commands.Abort r ≡ abort_after old c r
abort_told old c r is = ap (λ (x : Command). abort_after old x r) (sym is)
