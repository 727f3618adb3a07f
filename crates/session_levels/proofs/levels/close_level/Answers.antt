use Rattle.std.proofs.Common.{◌≡◌, ◌≤◌, length, arith, sym, subst, ◌∙◌, ap, ◌-◌}
use Rattle.std.specs.Vec.{vec_len}
use Rattle.session_levels.specs.Stands.{levels_of, Nest}
use Rattle.tx_model.specs.Stance.{without_last}
use Rattle.session_levels.proofs.LevelLemmas.{level_less, levels_length, named_taken}
use Rattle.session_levels.proofs.StandsLemmas.{stood, stands, stood_levels, nest_taken}
use Rattle.session_levels.proofs.levels.close_level.Goals as goal

pub returns-then-session-gt0-clause-closed : goal.returns-then-session-gt0-clause-closed
returns-then-session-gt0-clause-closed c = let s = c.args.session.now in sym (level_less s.level_ids.items s.unnamed (s.unnamed - 1) (omega arith))

pub returns-then-session-gt0-clause-stands : goal.returns-then-session-gt0-clause-stands
returns-then-session-gt0-clause-stands c = λ base h s n k. let old = c.args.session.now in stands base h s n _ (stood_levels base h s n old.open_ids.items old.level_ids.items old.level_ids.items old.unnamed (old.unnamed - 1) old.registered.items k.nest (omega (arith, k.depth)) (stood base h s n old k))

pub returns-else-session-gt0-clause-closed : goal.returns-else-session-gt0-clause-closed
returns-else-session-gt0-clause-closed c =
    let s = c.args.session.now in
    let two = levels_length s.level_ids.items s.unnamed in
    let none : s.unnamed ≡ 0 = omega arith in
    ap (λ n. levels_of c.pop-id.new.self.items n) none ∙ ap (λ l. levels_of l 0) c.pop-id.ensures.rest ∙ named_taken s.level_ids.items (vec_len s.level_ids - 1) (omega (arith, two)) ∙ sym (ap (λ n. without_last (levels_of s.level_ids.items n)) none)

pub returns-else-session-gt0-clause-stands : goal.returns-else-session-gt0-clause-stands
returns-else-session-gt0-clause-stands c = λ base h s n k.
    let old = c.args.session.now in
    let two = levels_length old.level_ids.items old.unnamed in
    let fewer : length c.pop-id.new.self.items ≤ length old.level_ids.items = omega (arith, c.pop-id.ensures.len) in
    stands base h s n _ (stood_levels base h s n old.open_ids.items old.level_ids.items c.pop-id.new.self.items old.unnamed old.unnamed old.registered.items
    (subst (Nest h old.open_ids.items) (sym c.pop-id.ensures.rest) (nest_taken h old.open_ids.items old.level_ids.items (vec_len old.level_ids - 1) (omega (arith, two)) (omega (arith, two, c.requires)) k.nest)) (omega (arith, k.depth, fewer)) (stood base h s n old k))
