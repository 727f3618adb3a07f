use Rattle.std.proofs.Common.{arith}
use Rattle.engine_bench.proofs.Steps.{ran_one}
use Rattle.engine_bench.proofs.calls.run.Goals as goal

pub returns-in-Begin : goal.returns-in-Begin
returns-in-Begin g c =
    let few = c.if-caller-ge-MOST_COMMANDS.false in
    ran_one c.args.hall.now c.args.banks _ _ c.is_ok.result c.args.caller.now c.begin.new.caller c.requires (omega (arith, few)) c.begin.ensures

pub returns-in-Save : goal.returns-in-Save
returns-in-Save g c =
    let few = c.if-caller-ge-MOST_COMMANDS.false in
    ran_one c.args.hall.now c.args.banks _ _ c.is_ok-in-Save.result c.args.caller.now c.save.new.caller c.requires (omega (arith, few)) c.save.ensures

pub returns-in-Write : goal.returns-in-Write
returns-in-Write g c =
    let few = c.if-caller-ge-MOST_COMMANDS.false in
    ran_one c.args.hall.now c.args.banks _ _ c.is_ok-in-Write.result c.args.caller.now c.write.new.caller c.requires (omega (arith, few)) c.write.ensures.ran

pub returns-in-Release : goal.returns-in-Release
returns-in-Release g c =
    let few = c.if-caller-ge-MOST_COMMANDS.false in
    ran_one c.args.hall.now c.args.banks _ _ c.is_ok-in-Release.result c.args.caller.now c.release.new.caller c.requires (omega (arith, few)) c.release.ensures

pub returns-in-Undo : goal.returns-in-Undo
returns-in-Undo g c =
    let few = c.if-caller-ge-MOST_COMMANDS.false in
    ran_one c.args.hall.now c.args.banks _ _ c.is_ok-in-Undo.result c.args.caller.now c.undo.new.caller c.requires (omega (arith, few)) c.undo.ensures

pub returns-in-Commit : goal.returns-in-Commit
returns-in-Commit g c =
    let few = c.if-caller-ge-MOST_COMMANDS.false in
    ran_one c.args.hall.now c.args.banks _ _ c.is_ok-in-Commit.result c.args.caller.now c.commit.new.caller c.requires (omega (arith, few)) c.commit.ensures.ran

pub returns-in-Snap : goal.returns-in-Snap
returns-in-Snap g c =
    let few = c.if-caller-ge-MOST_COMMANDS.false in
    ran_one c.args.hall.now c.args.banks _ _ c.is_ok-in-Snap.result c.args.caller.now c.snap.new.caller c.requires (omega (arith, few)) c.snap.ensures

pub returns-in-DropSnap : goal.returns-in-DropSnap
returns-in-DropSnap g c =
    let few = c.if-caller-ge-MOST_COMMANDS.false in
    ran_one c.args.hall.now c.args.banks _ _ c.is_ok-in-DropSnap.result c.args.caller.now c.drop_snap.new.caller c.requires (omega (arith, few)) c.drop_snap.ensures

pub returns-in-See : goal.returns-in-See
returns-in-See g c =
    let few = c.if-caller-ge-MOST_COMMANDS.false in
    ran_one c.args.hall.now c.args.banks _ _ c.is_ok-in-See.result c.args.caller.now c.see.new.caller c.requires (omega (arith, few)) c.see.ensures.ran
