-- No second outcome meets a contract of this crate: the answer and every lent buffer are fixed by what went in.
-- `put` stands in proofs/Unique. Rests on ground's Outcome. `element`, `in_field` and `packed_bytes` are equations with a definition: ground's `unique-equation`.
use Rattle.std.specs.Prelude.{◌≡◌, List, ℕ, ◌*◌}
use Rattle.std.proofs.Common.{sym, ◌∙◌, arith, ext_get_or}
use Rattle.std.proofs.Math.Decide.{dec_lt}
use Rattle.ground.specs.Outcome.{unique-writes, unique-equation}
use Rattle.ground.specs.Answers.{Answer}
use Rattle.packing.specs.Packing.{element, packed_bytes, Packs, Unpacks}
use Rattle.packing.specs.Spread.{Spread}

pub unique-pack : (elements : List ℕ) {before : List ℕ} {r r' : Answer} {after after' : List ℕ} → Packs elements before r after → Packs elements before r' after'
    → (r ≡ r') × (after ≡ after')
unique-pack elements a b = unique-writes a b

pub unique-unpack : (bytes : List ℕ) {before : List ℕ} {r r' : Answer} {after after' : List ℕ} → Unpacks bytes before r after → Unpacks bytes before r' after'
    → (r ≡ r') × (after ≡ after')
unique-unpack bytes a b = unique-writes a b

pub unique-element : (s : List ℕ) (e : ℕ) {r r' : ℕ} → r ≡ element s e → r' ≡ element s e → r ≡ r'
unique-element s e a b = unique-equation a b

pub unique-packed-bytes : (k : ℕ) {r r' : ℕ} → r ≡ packed_bytes k → r' ≡ packed_bytes k → r ≡ r'
unique-packed-bytes k a b = unique-equation a b

pub unique-spread : {stream : List ℕ} {from n : ℕ} {d t u : List ℕ} → Spread stream from n d t → Spread stream from n d u → t ≡ u
unique-spread {n = n} {t = t} {u} p q =
    ext_get_or 0 t u (p.long ∙ sym q.long)
    (λ e h. elim (dec_lt e (2 * n)) [ yes l ↦ p.elements e l ∙ sym (q.elements e l) | no l ↦ p.behind e (omega arith) ∙ sym (q.behind e (omega arith)) ])
