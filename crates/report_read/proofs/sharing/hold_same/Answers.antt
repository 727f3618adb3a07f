use Rattle.std.proofs.Common.{◌≡◌, ℕ, List, Bool, true, false, refl, ap, sym, ◌∙◌}
use Rattle.std.proofs.Math.Bool.{beq}
use Rattle.std.proofs.lemmas.Slice.Eq.{slice_eq-Decides}
use Rattle.std.proofs.lemmas.Bool.Decides.{Decides-eqb}
use Rattle.tx_events.specs.declared.snapshot.SnapData.{SnapData}
use Rattle.report_read.proofs.sharing.hold_same.Goals.{then-eq, else-eq, then-eq-2, else-eq-2, then-overflowed, else-overflowed}
use Rattle.report_read.proofs.sharing.hold_same.Goals as goal

same_data : (a b : SnapData) → a.xmin ≡ b.xmin → a.xmax ≡ b.xmax → a.xip ≡ b.xip → a.subxip ≡ b.subxip → a.overflowed ≡ b.overflowed → a ≡ b
same_data a b p q r s t =
    ap (λ (x : ℕ). record a { xmin = x }) p ∙ ap (λ (x : ℕ). record a { xmin = b.xmin; xmax = x }) q
    ∙ ap (λ (x : List ℕ). record a { xmin = b.xmin; xmax = b.xmax; xip = x }) r
    ∙ ap (λ (x : List ℕ). record b { subxip = x; overflowed = a.overflowed }) s
    ∙ ap (λ (x : Bool). record b { overflowed = x }) t

same_flag : (x y : Bool) → beq x y ≡ true → x ≡ y
same_flag true true is = refl
same_flag false false is = refl
same_flag true false is = sym is
same_flag false true is = is

pub returns-then-eq-3 : goal.returns-then-eq-3
returns-then-eq-3 c is =
    elim c.if-overflowed.branch [
      | then-overflowed w ↦ elim c.if-eq-2.branch [
        | then-eq-2 v ↦ elim c.if-eq.branch [
          | then-eq u ↦
              let xip : w.xip.result.now ≡ w.xip-then-overflowed.result.now = (slice_eq-Decides Decides-eqb _ _ _ w.eq-then-overflowed.ensures).0 (sym w.value-is ∙ c.if-eq-3.true) in
              let subxip : c.subxip.result.now ≡ c.subxip-then-eq-3.result.now = (slice_eq-Decides Decides-eqb _ _ _ c.eq-then-eq-3.ensures).0 is in
              let xmin : c.xmin.result ≡ c.xmin-2.result = (Decides-eqb _ _).0 (sym c.eq.ensures ∙ u.if-eq.true) in
              let xmax : u.xmax.result ≡ u.xmax-then-eq.result = (Decides-eqb _ _).0 (sym u.eq-then-eq.ensures ∙ sym u.value-is ∙ v.if-eq-2.true) in
              let flag : v.overflowed.result ≡ v.overflowed-then-eq-2.result = same_flag _ _ (sym v.value-is ∙ w.if-overflowed.true) in
              same_data c.args.one.now c.args.other.now
              (sym c.xmin.ensures ∙ xmin ∙ c.xmin-2.ensures) (sym u.xmax.ensures ∙ xmax ∙ u.xmax-then-eq.ensures) (sym w.xip.ensures ∙ xip ∙ w.xip-then-overflowed.ensures)
              (sym c.subxip.ensures ∙ subxip ∙ c.subxip-then-eq-3.ensures)
              (sym v.overflowed.ensures ∙ flag ∙ v.overflowed-then-eq-2.ensures)
          | else-eq u ↦ absurd (cc (u.value-is, v.if-eq-2.true))
        ]
        | else-eq-2 v ↦ absurd (cc (v.value-is, w.if-overflowed.true))
      ]
      | else-overflowed w ↦ absurd (cc (w.value-is, c.if-eq-3.true))
    ]
