use Rattle.std.proofs.Common.{◌≡◌, ◌%◌, ◌++◌, take, drop, arith, ap, ◌∙◌, List, ℕ}
use Rattle.std.specs.Prelude.{◌==◌}
use Rattle.disk_core.specs.MemLog.{mixed_bytes, outcome_of}
use Rattle.disk_core.specs.MemLogViews.{written, synced}
use Rattle.disk_core.proofs.MemLogCrash.{torn_is}
use Rattle.disk_core.proofs.mem_log.MemLog.fall_back.Goals as goal
use Rattle.disk_core.proofs.mem_log.MemLog.fall_back.Goals.{in-Lost, in-Kept, in-Torn}

fallen : (c : goal.After-settle) → written c.match-how.self ≡ outcome_of c.args.how (synced c.args.self.now) (written c.args.self.now)
fallen c =
    let d = c.args.self.now in let b : List ℕ = d.bytes.items in
    elim c.match-how.branch [
      | in-Lost w ↦
          let bytes = ap (λ s. s.bytes.items) w.self-is ∙ w.put_back.ensures ∙ ap (λ (l : List ℕ). take d.low b ++ l) w.deref.ensures.value in
          let start = ap (λ s. s.start) w.self-is in rw w.in-Lost.is (λ i. record { start = start i; bytes = bytes i })
      | in-Kept w ↦
          let bytes = ap (λ s. s.bytes.items) w.self-is in
          let start = ap (λ s. s.start) w.self-is in rw w.in-Kept.is (λ i. record { start = start i; bytes = bytes i })
      | in-Torn w ↦
          let mixed = w.mix_from.ensures.bytes ∙ ap (λ (l : List ℕ). take d.low b ++ mixed_bytes (d.low % 2 == 1) l (drop d.low b)) w.deref-in-Torn.ensures.value in
          let bytes = ap (λ s. s.bytes.items) w.self-is ∙ torn_is d.low b d.tail.items w.mix_from.new.bytes.items (omega arith) mixed in
          let start = ap (λ s. s.start) w.self-is in rw w.in-Torn.is (λ i. record { start = start i; bytes = bytes i })
    ]

pub returns-clause-written : goal.returns-clause-written
returns-clause-written c = c.settle.ensures.written ∙ fallen c
