-- Lines that follow each other, and the first wrong line behind them.
use Rattle.std.proofs.Common.{◌≡◌, ℕ, ◌+◌, suc, List, [], ◌∷◌, ◌++◌, false, refl, sym, ap, ◌∙◌, append_assoc, append-nil, subst, arith, length}
use Rattle.std.proofs.lemmas.Bool.{false≢true}
use Rattle.report_lines.specs.Front.{first_line, behind_line, front, IsLine}
use Rattle.report_lines.proofs.Fronts.{same_first, same_rest, line_first, line_behind, front_line}
use Rattle.report_read.specs.Item.{Item}
use Rattle.report_read.specs.Item as items
use Rattle.report_read.specs.Grammar.{Follows, after, item_line, may_stand}
use Rattle.report_read.specs.Reports.{IsRun, run_text}
use Rattle.report_read.specs.declared.told.Stage.TheVariants as stages
use Rattle.report_read.specs.declared.told.Told.{Told}
use Rattle.report_read.proofs.LineWords.{item_is_line}
use Rattle.report_read.proofs.Same.{SameLine, same_line, stands_in}

-- a text that may follow what is told, up to the end of a report
pub record IsRest (t : Told) (text : List ℕ) : Type 0 where
  pub run : List (Item × Told)
  pub last : Told
  pub goes : IsRun t run last
  pub closed : last.stage ≡ stages.Closed
  pub is : text ≡ run_text run

-- n lines are right, and the next one isn't
pub record IsWrongAt (t : Told) (bytes : List ℕ) (n : ℕ) : Type 0 where
  pub text : List ℕ
  pub rest : IsRest t text
  pub before : front n text ≡ front n bytes
  pub wrong : (u : List ℕ) → IsRest t u → front (suc n) u ≡ front (suc n) bytes → ⊥

closed_none : (x : Item) → may_stand x stages.Closed ≡ false
closed_none items.title = refl
closed_none (items.life number s) = refl
closed_none (items.round number) = refl
closed_none (items.command l) = refl
closed_none (items.step s) = refl
closed_none items.history = refl
closed_none (items.event e) = refl
closed_none items.multis = refl
closed_none (items.multi e) = refl
closed_none (items.log l) = refl
closed_none (items.logged number r) = refl
closed_none (items.crash how) = refl
closed_none items.last = refl

pub closed_ends : (t : Told) (x : Item) (m : Told) → t.stage ≡ stages.Closed → Follows t x m → ⊥
closed_ends t x m e f = false≢true (sym (closed_none x) ∙ ap (may_stand x) (sym e) ∙ f.stands)

pub record SameStep (x y : Item) (m k : Told) : Type 0 where
  pub item : x ≡ y
  pub told : m ≡ k

-- a line that may stand is one item's, and tells one thing
pub same_step : (t : Told) (x y : Item) (m k : Told) → Follows t x m → Follows t y k → item_line m.names x ≡ item_line k.names y → SameStep x y m k
same_step t x y m k a b e =
    let s : SameLine x y m.names k.names = same_line t x y m.names k.names (stands_in x t.stage a.stands ∙ sym (stands_in y t.stage b.stands)) a.rule b.rule e in
    record {
      item = s.item;
      told = a.told ∙ ap (λ i. record (after t i) { names = m.names }) s.item ∙ ap (λ n. record (after t y) { names = n }) s.names ∙ sym b.told;
    }

pub is_line : (t : Told) (x : Item) (m : Told) → Follows t x m → IsLine (item_line m.names x)
is_line t x m f = item_is_line t x m.names f.rule

pub first_some : (l : List ℕ) → IsLine l → [] ≡ l → ⊥
first_some l i e = none i.body (e ∙ i.text)
  where
    none : (b : List ℕ) → [] ≡ b ++ 10 ∷ [] → ⊥
    none [] e = absurd cc
    none (c ∷ b) e = absurd cc

-- behind a right line the first wrong line of the rest is that of the whole, one further
pub wrong_later : (t : Told) (x : Item) (m : Told) (rest : List ℕ) (n : ℕ) → Follows t x m → IsWrongAt m rest n → IsWrongAt t (item_line m.names x ++ rest) (suc n)
wrong_later t x m rest n f w = record {
  text = item_line m.names x ++ w.text;
  rest = record { run = (x, m) ∷ w.rest.run; last = w.rest.last; goes = (f, w.rest.goes); closed = w.rest.closed; is = ap (λ u. item_line m.names x ++ u) w.rest.is };
  before = front_line n (item_line m.names x) w.text l ∙ ap (λ u. item_line m.names x ++ u) w.before ∙ sym (front_line n (item_line m.names x) rest l);
  wrong = λ u r e. other u r.run r.last r.goes r.closed r.is e;
}
  where
    l : IsLine (item_line m.names x)
    l = is_line t x m f

    other : (u : List ℕ) (run : List (Item × Told)) (last : Told) → IsRun t run last → last.stage ≡ stages.Closed → u ≡ run_text run → front (suc (suc n)) u ≡ front (suc (suc n)) (item_line m.names x ++ rest) → ⊥
    other u [] last g c i e = closed_ends t x m (ap (λ (s : Told). s.stage) g ∙ c) f
    other u (p ∷ ps) last g c i e =
        let k : IsLine (item_line p.1.names p.0) = is_line t p.0 p.1 g.0 in
        let first : item_line p.1.names p.0 ≡ item_line m.names x = sym (line_first (item_line p.1.names p.0) (run_text ps) k) ∙ ap first_line (sym i) ∙ same_first (suc n) u (item_line m.names x ++ rest) e ∙ line_first (item_line m.names x) rest l in
        let s : SameStep p.0 x p.1 m = same_step t p.0 x p.1 m g.0 f first in
        let tail : front (suc n) (run_text ps) ≡ front (suc n) rest = ap (front (suc n)) (sym (line_behind (item_line p.1.names p.0) (run_text ps) k) ∙ ap behind_line (sym i)) ∙ same_rest (suc n) u (item_line m.names x ++ rest) e ∙ ap (front (suc n)) (line_behind (item_line m.names x) rest l) in
        w.wrong (run_text ps) (record { run = ps; last = last; goes = subst (λ (q : Told). IsRun q ps last) s.told g.1; closed = c; is = refl }) tail

-- no line may stand that begins so
pub wrong_here : (t : Told) (bytes text : List ℕ) → IsRest t text → (t.stage ≡ stages.Closed → first_line bytes ≡ [] → ⊥) → ((x : Item) (m : Told) → Follows t x m → first_line bytes ≡ item_line m.names x → ⊥) → IsWrongAt t bytes 0
wrong_here t bytes text r ends none = record { text = text; rest = r; before = refl; wrong = λ u q e. other u q.run q.last q.goes q.closed q.is e }
  where
    other : (u : List ℕ) (run : List (Item × Told)) (last : Told) → IsRun t run last → last.stage ≡ stages.Closed → u ≡ run_text run → front 1 u ≡ front 1 bytes → ⊥
    other u [] last g c i e = ends (ap (λ (s : Told). s.stage) g ∙ c) (sym (same_first 0 u bytes e) ∙ ap first_line i)
    other u (p ∷ ps) last g c i e = none p.0 p.1 g.0 (sym (same_first 0 u bytes e) ∙ ap first_line i ∙ line_first (item_line p.1.names p.0) (run_text ps) (is_line t p.0 p.1 g.0))

-- behind all that is read
pub wrong_behind : (t : Told) (run : List (Item × Told)) (m : Told) (rest : List ℕ) (n : ℕ) → IsRun t run m → IsWrongAt m rest n → IsWrongAt t (run_text run ++ rest) (length run + n)
wrong_behind t [] m rest n g w =
    let z : n ≡ length {A = Item × Told} [] + n = omega arith in
    subst (λ k. IsWrongAt t rest k) z (subst (λ (q : Told). IsWrongAt q rest n) (sym g) w)
wrong_behind t (p ∷ ps) m rest n g w =
    let k : suc (length ps + n) ≡ length (p ∷ ps) + n = omega arith in
    let whole = wrong_later t p.0 p.1 (run_text ps ++ rest) (length ps + n) g.0 (wrong_behind p.1 ps m rest n g.1 w) in
    subst (λ i. IsWrongAt t (run_text (p ∷ ps) ++ rest) i) k (rw (append_assoc (item_line p.1.names p.0) (run_text ps) rest) whole)

-- a text is told in one way
pub same_run : (t : Told) (r s : List (Item × Told)) (m k : Told) → IsRun t r m → IsRun t s k → m.stage ≡ stages.Closed → k.stage ≡ stages.Closed → run_text r ≡ run_text s → m ≡ k
same_run t [] [] m k a b c d e = sym a ∙ b
same_run t [] (q ∷ qs) m k a b c d e = absurd (closed_ends t q.0 q.1 (ap (λ (s : Told). s.stage) a ∙ c) b.0)
same_run t (p ∷ ps) [] m k a b c d e = absurd (closed_ends t p.0 p.1 (ap (λ (s : Told). s.stage) b ∙ d) a.0)
same_run t (p ∷ ps) (q ∷ qs) m k a b c d e =
    let l : IsLine (item_line p.1.names p.0) = is_line t p.0 p.1 a.0 in
    let j : IsLine (item_line q.1.names q.0) = is_line t q.0 q.1 b.0 in
    let first : item_line p.1.names p.0 ≡ item_line q.1.names q.0 = sym (line_first (item_line p.1.names p.0) (run_text ps) l) ∙ ap first_line e ∙ line_first (item_line q.1.names q.0) (run_text qs) j in
    let tail : run_text ps ≡ run_text qs = sym (line_behind (item_line p.1.names p.0) (run_text ps) l) ∙ ap behind_line e ∙ line_behind (item_line q.1.names q.0) (run_text qs) j in
    let s : SameStep p.0 q.0 p.1 q.1 = same_step t p.0 q.0 p.1 q.1 a.0 b.0 first in
    same_run q.1 ps qs m k (subst (λ (x : Told). IsRun x ps m) s.told a.1) b.1 c d tail

-- one line more
pub run_push : (t : Told) (run : List (Item × Told)) (m : Told) (x : Item) (k : Told) → IsRun t run m → Follows m x k → IsRun t (run ++ (x, k) ∷ []) k
run_push t [] m x k g f = (subst (λ (q : Told). Follows q x k) (sym g) f, refl)
run_push t (p ∷ ps) m x k g f = (g.0, run_push p.1 ps m x k g.1 f)

pub run_text_push : (run : List (Item × Told)) (x : Item) (k : Told) → run_text (run ++ (x, k) ∷ []) ≡ run_text run ++ item_line k.names x
run_text_push [] x k = append-nil (item_line k.names x)
run_text_push (p ∷ ps) x k = ap (λ u. item_line p.1.names p.0 ++ u) (run_text_push ps x k) ∙ sym (append_assoc (item_line p.1.names p.0) (run_text ps) (item_line k.names x))
