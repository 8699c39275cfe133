-- Lists filled by a rule: `tab n f` is f 0, .. , f (n - 1); and the laws that read such a list, or any list, by its places.
-- Rests on the kit's lists.
use Rattle.std.specs.Prelude.{◌≡◌, refl, List, [], ◌∷◌, ◌++◌, ℕ, zero, suc, ◌<◌, length, get_or}
use Rattle.std.proofs.Common.{sym, ap, ◌∙◌, not-suc-le-zero, arith, length-append, ext_get_or}
use Rattle.std.proofs.Math.Decide.{dec_lt}
use Rattle.std.proofs.Math.ListN.{get_or-append}
use Rattle.std.proofs.lemmas.List.{get_or_at}

unfoldable pub tab : ℕ → (ℕ → ℕ) → List ℕ
tab zero f = []
tab (suc n) f = tab n f ++ (f n ∷ [])

pub length-tab : (n : ℕ) (f : ℕ → ℕ) → length (tab n f) ≡ n
unfolding tab
length-tab zero f = refl
length-tab (suc n) f = simp length-append (omega (arith, length-tab n f))

pub get_or-tab : (n : ℕ) (f : ℕ → ℕ) (k : ℕ) → k < n → get_or (tab n f) k 0 ≡ f k
unfolding tab
get_or-tab zero f k h = absurd (not-suc-le-zero h)
get_or-tab (suc n) f k h =
    elim (dec_lt k n) [
      | yes l ↦ get_or-append (tab n f) (f n ∷ []) 0 k (omega (arith, length-tab n f)) ∙ get_or-tab n f k l
      | no l ↦ let e : n ≡ k = omega arith in get_or_at (tab n f) (f n) [] 0 k (length-tab n f ∙ e) ∙ ap f e
    ]

-- a list is the table of its own places
pub tab-ext : (s : List ℕ) (n : ℕ) (f : ℕ → ℕ) → length s ≡ n → ((k : ℕ) → k < n → get_or s k 0 ≡ f k) → s ≡ tab n f
tab-ext s n f e h = ext_get_or 0 s (tab n f) (e ∙ sym (length-tab n f)) (λ k l. h k (omega arith) ∙ sym (get_or-tab n f k (omega arith)))

-- the same rule gives the same list
pub tab-cong : (n : ℕ) (f g : ℕ → ℕ) → ((k : ℕ) → k < n → f k ≡ g k) → tab n f ≡ tab n g
tab-cong n f g e = tab-ext (tab n f) n g (length-tab n f) (λ k h. get_or-tab n f k h ∙ e k h)
