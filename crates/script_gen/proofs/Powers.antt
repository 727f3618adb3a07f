-- The draws are powers of the multiplier.
use Rattle.std.proofs.Common.{◌≡◌, ℕ, ◌*◌, ◌^◌, ◌%◌, ◌<◌, zero, suc, sym, ap, ◌∙◌, arith}
use Rattle.std.proofs.Math.Nat.{mul_assoc, pow-succ'}
use Rattle.std.proofs.lemmas.Nat.{mul-mod_first}
use Rattle.script_gen.specs.Draws.{next_state, state_behind}
use Rattle.script_gen.specs.Laws.{DrawsArePowers}

powers : (n s : ℕ) → s < 2147483647 → state_behind n s ≡ s * 48271 ^ n % 2147483647
powers zero s l = omega arith
powers (suc n) s l =
    let i = powers n (next_state s) (omega arith) in
    let m = mul-mod_first (s * 48271) (48271 ^ n) 2147483647 in
    let p : 48271 ^ suc n ≡ 48271 * 48271 ^ n = pow-succ' 48271 n in
    let r : s * 48271 * 48271 ^ n ≡ s * (48271 * 48271 ^ n) = mul_assoc s 48271 (48271 ^ n) in
    i ∙ m ∙ ap (λ x. x % 2147483647) (r ∙ ap (λ x. s * x) (sym p))

pub draws_are_powers : DrawsArePowers
draws_are_powers n seed l = powers n seed l
