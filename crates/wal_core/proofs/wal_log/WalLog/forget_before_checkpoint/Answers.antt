use Rattle.std.proofs.Common.{refl, arith, ◌≡◌, ◌∙◌}
use Rattle.disk_core.specs.Volume.{Volume}
use Rattle.wal_core.proofs.Firsts.{first_forgotten}
use Rattle.wal_core.proofs.Forgetting.{at_checkpoint, now_forgotten, no_call, one_call}
use Rattle.wal_core.proofs.wal_log.WalLog.forget_before_checkpoint.Goals as goal

pub invariant_of-self-in-Ok-clause-starts : goal.invariant_of-self-in-Ok-clause-starts
invariant_of-self-in-Ok-clause-starts g c told up =
    let d = g.D.LogDisk in let s = c.args.self.now in
    let begins = s.begins told up c.unwrap-checkpoint.result c.unwrap-checkpoint.ensures (d.reads s.disk) (g.met.D.LogDisk.reads_image s.disk told) in
    omega (arith, c.in-Ok.ensures.raised told, begins.not_past)

pub invariant_of-self-in-Ok-clause-firsts : goal.invariant_of-self-in-Ok-clause-firsts
invariant_of-self-in-Ok-clause-firsts g c told up =
    let d = g.D.LogDisk in let s = c.args.self.now in let k = c.unwrap-checkpoint.result in
    let b = s.begins told up k c.unwrap-checkpoint.ensures (d.reads s.disk) (g.met.D.LogDisk.reads_image s.disk told) in
    let low = b.not_past in let raised = c.in-Ok.ensures.raised told in
    let start : (d.reads c.forget.new.self).start ≡ k.gate = omega (arith, raised, low) in
    let same = first_forgotten k (d.reads s.disk) (d.reads c.forget.new.self) start (c.forget.ensures.others told).bytes b.alone in
    omega (arith, same)

pub invariant_of-self-clause-firsts : goal.invariant_of-self-clause-firsts
invariant_of-self-clause-firsts g c told up =
    let d = g.D.LogDisk in let s = c.args.self.now in let k = c.unwrap-checkpoint.result in let v : Volume = d.reads s.disk in
    let b = s.begins told up k c.unwrap-checkpoint.ensures v (g.met.D.LogDisk.reads_image s.disk told) in
    let start : v.start ≡ k.gate = s.starts told up ∙ c.if-self-gate.true in
    let same = first_forgotten k v v start refl b.alone in
    omega (arith, same)

pub invariant_of-self-in-Ok-clause-begins : goal.invariant_of-self-in-Ok-clause-begins
invariant_of-self-in-Ok-clause-begins g c told up k e x left =
    let s = c.args.self.now in let from = c.forget.ensures.crash told x left in
    (now_forgotten s told up k e from.0 x from.1 (at_checkpoint s told up k e c.unwrap-checkpoint.result c.unwrap-checkpoint.ensures from.0 x from.2)).begins

pub invariant_of-self-in-Ok-clause-ready : goal.invariant_of-self-in-Ok-clause-ready
invariant_of-self-in-Ok-clause-ready g c told up x left =
    let s = c.args.self.now in let from = c.forget.ensures.crash told x left in
    (now_forgotten s told up c.unwrap-checkpoint.result c.unwrap-checkpoint.ensures from.0 x from.1 from.2).ready

-- ---- where nothing stands before the checkpoint

pub returns-then-self-gate-clause-any_moment : goal.returns-then-self-gate-clause-any_moment
returns-then-self-gate-clause-any_moment g c told up k e = let s = c.args.self.now in (no_call s told up k e (λ x now. g.met.D.LogDisk.only_now s.disk x told now)).any_moment

pub returns-then-self-gate-clause-left : goal.returns-then-self-gate-clause-left
returns-then-self-gate-clause-left g c told up k e = let s = c.args.self.now in (no_call s told up k e (λ x now. g.met.D.LogDisk.only_now s.disk x told now)).left

pub returns-then-self-gate-clause-keeps_at_each_moment : goal.returns-then-self-gate-clause-keeps_at_each_moment
returns-then-self-gate-clause-keeps_at_each_moment g c told = let s = c.args.self.now in (no_call s told c.in_default.is c.unwrap-checkpoint.result c.unwrap-checkpoint.ensures (λ x now. g.met.D.LogDisk.only_now s.disk x told now)).keeps_at_each_moment

pub returns-then-self-gate-clause-keeps : goal.returns-then-self-gate-clause-keeps
returns-then-self-gate-clause-keeps g c told = let s = c.args.self.now in (no_call s told c.in_default.is c.unwrap-checkpoint.result c.unwrap-checkpoint.ensures (λ x now. g.met.D.LogDisk.only_now s.disk x told now)).keeps

pub returns-then-self-gate-clause-begins : goal.returns-then-self-gate-clause-begins
returns-then-self-gate-clause-begins g c told up = let s = c.args.self.now in (no_call s told up c.unwrap-checkpoint.result c.unwrap-checkpoint.ensures (λ x now. g.met.D.LogDisk.only_now s.disk x told now)).begins

-- ---- where it is forgotten

pub returns-in-Ok-clause-any_moment : goal.returns-in-Ok-clause-any_moment
returns-in-Ok-clause-any_moment g c told up k e = let s = c.args.self.now in (one_call s told up k e (λ x now. g.met.D.LogDisk.only_now s.disk x told now) c.forget.new.self c.unwrap-checkpoint.result c.unwrap-checkpoint.ensures (c.forget.ensures.crash told) (c.forget.ensures.time told)).any_moment

pub returns-in-Ok-clause-left : goal.returns-in-Ok-clause-left
returns-in-Ok-clause-left g c told up k e = let s = c.args.self.now in (one_call s told up k e (λ x now. g.met.D.LogDisk.only_now s.disk x told now) c.forget.new.self c.unwrap-checkpoint.result c.unwrap-checkpoint.ensures (c.forget.ensures.crash told) (c.forget.ensures.time told)).left

pub returns-in-Ok-clause-keeps_at_each_moment : goal.returns-in-Ok-clause-keeps_at_each_moment
returns-in-Ok-clause-keeps_at_each_moment g c told = let s = c.args.self.now in (one_call s told c.in_default.is c.unwrap-checkpoint.result c.unwrap-checkpoint.ensures (λ x now. g.met.D.LogDisk.only_now s.disk x told now) c.forget.new.self c.unwrap-checkpoint.result c.unwrap-checkpoint.ensures (c.forget.ensures.crash told) (c.forget.ensures.time told)).keeps_at_each_moment

pub returns-in-Ok-clause-keeps : goal.returns-in-Ok-clause-keeps
returns-in-Ok-clause-keeps g c told = let s = c.args.self.now in (one_call s told c.in_default.is c.unwrap-checkpoint.result c.unwrap-checkpoint.ensures (λ x now. g.met.D.LogDisk.only_now s.disk x told now) c.forget.new.self c.unwrap-checkpoint.result c.unwrap-checkpoint.ensures (c.forget.ensures.crash told) (c.forget.ensures.time told)).keeps

pub returns-in-Ok-clause-begins : goal.returns-in-Ok-clause-begins
returns-in-Ok-clause-begins g c told up = let s = c.args.self.now in (one_call s told up c.unwrap-checkpoint.result c.unwrap-checkpoint.ensures (λ x now. g.met.D.LogDisk.only_now s.disk x told now) c.forget.new.self c.unwrap-checkpoint.result c.unwrap-checkpoint.ensures (c.forget.ensures.crash told) (c.forget.ensures.time told)).begins

-- ---- where that failed

pub returns-in-Err-clause-any_moment : goal.returns-in-Err-clause-any_moment
returns-in-Err-clause-any_moment g c told up k e = let s = c.args.self.now in (one_call s told up k e (λ x now. g.met.D.LogDisk.only_now s.disk x told now) c.forget.new.self c.unwrap-checkpoint.result c.unwrap-checkpoint.ensures (c.forget.ensures.crash told) (c.forget.ensures.time told)).any_moment

pub returns-in-Err-clause-left : goal.returns-in-Err-clause-left
returns-in-Err-clause-left g c told up k e = let s = c.args.self.now in (one_call s told up k e (λ x now. g.met.D.LogDisk.only_now s.disk x told now) c.forget.new.self c.unwrap-checkpoint.result c.unwrap-checkpoint.ensures (c.forget.ensures.crash told) (c.forget.ensures.time told)).left

pub returns-in-Err-clause-keeps_at_each_moment : goal.returns-in-Err-clause-keeps_at_each_moment
returns-in-Err-clause-keeps_at_each_moment g c told = let s = c.args.self.now in (one_call s told c.in_default.is c.unwrap-checkpoint.result c.unwrap-checkpoint.ensures (λ x now. g.met.D.LogDisk.only_now s.disk x told now) c.forget.new.self c.unwrap-checkpoint.result c.unwrap-checkpoint.ensures (c.forget.ensures.crash told) (c.forget.ensures.time told)).keeps_at_each_moment

pub returns-in-Err-clause-keeps : goal.returns-in-Err-clause-keeps
returns-in-Err-clause-keeps g c told = let s = c.args.self.now in (one_call s told c.in_default.is c.unwrap-checkpoint.result c.unwrap-checkpoint.ensures (λ x now. g.met.D.LogDisk.only_now s.disk x told now) c.forget.new.self c.unwrap-checkpoint.result c.unwrap-checkpoint.ensures (c.forget.ensures.crash told) (c.forget.ensures.time told)).keeps

pub returns-in-Err-clause-begins : goal.returns-in-Err-clause-begins
returns-in-Err-clause-begins g c told up = let s = c.args.self.now in (one_call s told up c.unwrap-checkpoint.result c.unwrap-checkpoint.ensures (λ x now. g.met.D.LogDisk.only_now s.disk x told now) c.forget.new.self c.unwrap-checkpoint.result c.unwrap-checkpoint.ensures (c.forget.ensures.crash told) (c.forget.ensures.time told)).begins

pub returns-in-Some-clause-first : goal.returns-in-Some-clause-first
returns-in-Some-clause-first g c not_down = absurd (not_down _ refl)
