-- Lines whose rounds have come further.
use Rattle.std.proofs.Common.{◌≡◌, ℕ, zero, suc, ◌≤◌, List, [], ◌∷◌, ◌++◌, Some, ap, refl, sym, ◌∙◌, arith, take}
use Rattle.std.specs.List.{AllByRecursion, slice_get}
use Rattle.tx_model.specs.declared.report.Line.{Line}
use Rattle.session_promise.specs.Told.{IsNoLater, Place, Span, Told, between, lines_of, told_in}

-- the round has come no further
abbrev pub IsWithin : Place → Told → Type 0
IsWithin m t = (t.span.events.to ≤ m.events) × (t.span.multis.to ≤ m.multis)

-- the span that begins there and has come as far as the other
abbrev pub stretched : Span → Span → Span
stretched span wider = record {
  begun = span.begun;
  events = record { from = span.events.from; to = wider.events.to };
  multis = record { from = span.multis.from; to = wider.multis.to };
}

-- the same line, and its round has come as far or further, but not past m
pub record IsWider (m : Place) (t u : Told) : Type 0 where
  pub line : u.line ≡ t.line
  pub begun : u.span.begun ≡ t.span.begun
  pub from : u.span.events.from ≡ t.span.events.from
  pub multi_from : u.span.multis.from ≡ t.span.multis.from
  pub to : (t.span.events.to ≤ u.span.events.to) × (u.span.events.to ≤ m.events)
  pub multi_to : (t.span.multis.to ≤ u.span.multis.to) × (u.span.multis.to ≤ m.multis)

abbrev pub AreWider : Place → List Told → List Told → Type 0
AreWider m [] [] = Unit {0}
AreWider m (t ∷ told) (u ∷ wider) = IsWider m t u × AreWider m told wider
AreWider m told wider = ⊥

pub wider_same : (m : Place) (told : List Told) → AllByRecursion (IsWithin m) told → AreWider m told told
wider_same m [] a = tt
wider_same m (t ∷ told) a = (record { line = refl; begun = refl; from = refl; multi_from = refl; to = (omega arith, a.0.0); multi_to = (omega arith, a.0.1) }, wider_same m told a.1)

pub wider_in : (m from to later : Place) (lines : List Line) → IsNoLater to later → IsNoLater later m → AreWider m (told_in (between from to) lines) (told_in (between from later) lines)
wider_in m from to later [] a b = tt
wider_in m from to later (l ∷ lines) a b = (record { line = refl; begun = refl; from = refl; multi_from = refl; to = (a.events, b.events); multi_to = (a.multis, b.multis) }, wider_in m from to later lines a b)

pub wider_to : (m from to : Place) (lines : List Line) → AllByRecursion (IsWithin m) (told_in (between from to) lines) → AreWider m (told_in (between from to) lines) (told_in (between from m) lines)
wider_to m from to [] a = tt
wider_to m from to (l ∷ lines) a = (record { line = refl; begun = refl; from = refl; multi_from = refl; to = (a.0.0, omega arith); multi_to = (a.0.1, omega arith) }, wider_to m from to lines a.1)

pub wider_both : (m : Place) (told wider rest more : List Told) → AreWider m told wider → AreWider m rest more → AreWider m (told ++ rest) (wider ++ more)
wider_both m [] [] rest more a b = b
wider_both m [] (u ∷ wider) rest more a b = absurd a
wider_both m (t ∷ told) [] rest more a b = absurd a
wider_both m (t ∷ told) (u ∷ wider) rest more a b = (a.0, wider_both m told wider rest more a.1 b)

pub wider_lines : (m : Place) (told wider : List Told) → AreWider m told wider → lines_of wider ≡ lines_of told
wider_lines m [] [] a = refl
wider_lines m [] (u ∷ wider) a = absurd a
wider_lines m (t ∷ told) [] a = absurd a
wider_lines m (t ∷ told) (u ∷ wider) a = ap (λ (l : Line). l ∷ lines_of wider) a.0.line ∙ ap (λ ls. t.line ∷ ls) (wider_lines m told wider a.1)

-- what stands at a place of the wider list stood there
pub record WasAt (m : Place) (told wider : List Told) (p : ℕ) (u : Told) : Type 0 where
  pub was : Told
  pub at : slice_get told p ≡ Some was
  pub is : IsWider m was u
  pub before : lines_of (take p wider) ≡ lines_of (take p told)

wider_is : (m : Place) (t u v : Told) → IsWider m t v → v ≡ u → IsWider m t u
wider_is m t u v k same =
    let to : v.span.events.to ≡ u.span.events.to = ap (λ (x : Told). x.span.events.to) same in
    let multi_to : v.span.multis.to ≡ u.span.multis.to = ap (λ (x : Told). x.span.multis.to) same in
    let a = k.to in let b = k.multi_to in record {
      line = ap (λ (x : Told). x.line) (sym same) ∙ k.line;
      begun = ap (λ (x : Told). x.span.begun) (sym same) ∙ k.begun;
      from = ap (λ (x : Told). x.span.events.from) (sym same) ∙ k.from;
      multi_from = ap (λ (x : Told). x.span.multis.from) (sym same) ∙ k.multi_from;
      to = (omega (arith, a.0), omega (arith, a.1));
      multi_to = (omega (arith, b.0), omega (arith, b.1));
    }

pub wider_at : (m : Place) (told wider : List Told) (p : ℕ) (u : Told) → AreWider m told wider → slice_get wider p ≡ Some u → WasAt m told wider p u
wider_at m [] [] p u a e = absurd cc
wider_at m [] (v ∷ wider) p u a e = absurd a
wider_at m (t ∷ told) [] p u a e = absurd a
wider_at m (t ∷ told) (v ∷ wider) zero u a e =
    let same : v ≡ u = cc in
    record { was = t; at = refl; is = wider_is m t u v a.0 same; before = refl }
wider_at m (t ∷ told) (v ∷ wider) (suc p) u a e =
    let r = wider_at m told wider p u a.1 e in
    record {
      was = r.was;
      at = r.at;
      is = r.is;
      before = ap (λ (l : Line). l ∷ lines_of (take p wider)) a.0.line ∙ ap (λ ls. t.line ∷ ls) r.before;
    }
