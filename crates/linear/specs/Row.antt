-- A row held apart from the area: up to 160 elements, and the right-hand element beside them.
-- What loading it from the area and adding it to a part of the area do. Rests on System and on the gains of rows.
use Rattle.std.specs.Prelude.{◌≡◌, List, ℕ, ◌+◌, ◌*◌, ◌<◌, ◌≤◌, ltb, length, get_or, set}
use Rattle.std.proofs.Common.{sym, ap, ◌∙◌, le_refl, arith, lt-ltb, le-ltb}
use Rattle.std.proofs.Math.Decide.{dec_lt}
use Rattle.ground.specs.Pick.{pick}
use Rattle.field.specs.Field.{add, mul}
use Rattle.rows.specs.Plus.{Plus, plus-next, plus-cong, plus-zero-start}
use Rattle.linear.specs.declared.Row.{Row}
use Rattle.linear.specs.System.{at}

-- entry c of the row of a system of n equations: the right-hand element stands in column n
unfoldable pub row_at : Row → ℕ → ℕ → ℕ
row_at row n c = pick (ltb c n) (get_or row.elements c 0) row.right

pub row-element : (row : Row) (n c : ℕ) → c < n → row_at row n c ≡ get_or row.elements c 0
unfolding row_at
row-element row n c h = rw (lt-ltb c n h)

pub row-right : (row : Row) (n : ℕ) → row_at row n n ≡ row.right
unfolding row_at
row-right row n = rw (le-ltb n n (le_refl n))

-- zeros that gained s times row r of the area, and s times its right-hand element
pub loaded : (row : Row) (g z : List ℕ) (n r s : ℕ) → ((c : ℕ) → c < n → get_or z (0 + c) 0 ≡ 0)
    → Plus z 0 n (λ c. mul s (get_or g (r * (n + 1) + c) 0)) row.elements → row.right ≡ mul s (at g n r n)
    → (c : ℕ) → c ≤ n → row_at row n c ≡ mul s (at g n r c)
unfolding at
loaded row g z n r s zeros p e c l =
    elim (dec_lt c n) [
      | yes h ↦ let e0 : c ≡ 0 + c = omega arith in row-element row n c h ∙ ap (λ i. get_or row.elements i 0) e0 ∙ plus-zero-start p zeros c h
      | no h ↦ let c-is : c ≡ n = omega arith in rw c-is (row-right row n ∙ e)
    ]

-- a part of n elements that gained s times the row's, and the byte after it that gained s times the right-hand element
pub gained : (row : Row) (s : ℕ) {g t : List ℕ} {base n : ℕ} → Plus g base n (λ c. mul s (get_or row.elements (0 + c) 0)) t → base + n < length g
    → (y : ℕ) → y ≡ mul s row.right → Plus g base (n + 1) (λ c. mul s (row_at row n c)) (set t (base + n) (add (get_or t (base + n) 0) y))
gained row s {n = n} p h y e =
    plus-next
    (plus-cong (λ c l. let e0 : 0 + c ≡ c = omega arith in ap (λ i. mul s (get_or row.elements i 0)) e0 ∙ ap (mul s) (sym (row-element row n c l))) p)
    h
    y
    (e ∙ ap (mul s) (sym (row-right row n)))
