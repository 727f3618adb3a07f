use Rattle.std.proofs.Common.{◌≡◌, ◌+◌, ◌-◌, ◌++◌, take, drop, arith, ◌∙◌, ap, sym, List, ℕ}
use Rattle.std.proofs.lemmas.List.{append_assoc}
use Rattle.std.proofs.Math.Seq.{take-add}
use Rattle.disk_core.proofs.mem_log.set_aside.Goals as goal

pub returns-in_ok-put_before-clause-synced : goal.returns-in_ok-put_before-clause-synced
returns-in_ok-put_before-clause-synced c =
    let b : List ℕ = c.args.bytes.now in let at : ℕ = c.args.at in let low : ℕ = c.args.low.now in let tail : List ℕ = c.args.tail.now.items in
    let both : c.put_before.new.tail.items ≡ take (low - at) (drop at b) ++ tail = c.in_ok-put_before.ensures.ok in
    let sum : at + (low - at) ≡ low = omega arith in
    ap (λ (l : List ℕ). take at b ++ l) both ∙ sym (append_assoc (take at b) (take (low - at) (drop at b)) tail)
    ∙ ap (λ (l : List ℕ). l ++ tail) (sym (take-add at (low - at) b) ∙ ap (λ (n : ℕ). take n b) sum)
