use contract.BorrowLft.{⊑_meet, ⊑_refl, ⊑_static}
use Rattle.engine_parts.proofs.fault_notes.fault_note.Goals as goal

-- the note's lifetimes are those of what it shows
pub by-requires : goal.by-requires
by-requires g c κs within =
    let k = κs.1.1.0 in
    let o = ⊑_meet k g.row.O.lives _ within.1 (⊑_static k) in
    let shape = ⊑_meet k _ _ (⊑_meet k _ _ o (⊑_static k)) (⊑_static k) in
    let q = ⊑_meet k _ _ (⊑_meet k g.row.P.lives _ within.0 o) (⊑_meet k g.row.P.lives _ within.0 shape) in
    let r = ⊑_meet k k _ (⊑_refl k) q in
    let t = ⊑_meet k _ _ r (⊑_static k) in
    (⊑_static κs.1.0, ⊑_meet k _ _ t t)
