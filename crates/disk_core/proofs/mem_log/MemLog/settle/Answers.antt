use Rattle.std.proofs.Common.{◌≡◌, ◌++◌, take, arith, ◌∙◌, ap, List, ℕ}
use Rattle.std.proofs.lemmas.List.{take_all, append-nil}
use Rattle.disk_core.proofs.mem_log.MemLog.settle.Goals as goal

pub returns-clause-synced : goal.returns-clause-synced
returns-clause-synced c =
    let b : List ℕ = c.args.self.now.bytes.items in
    let all : take c.len-self.result b ++ c.clear.new.self.items ≡ b =
    ap (λ (l : List ℕ). take c.len-self.result b ++ l) c.clear.ensures.items ∙ append-nil (take c.len-self.result b) ∙ take_all c.len-self.result b (omega arith) in
    λ i. record { start = c.args.self.now.start; bytes = all i }
