-- How far elimination has come in the area: what one step does to it, and what the area says when there is no pivot or no column left.
-- Rests on Frame, Step and Answer.
use Rattle.std.specs.Prelude.{◌≡◌, refl, Ok, Err, List, ℕ, ◌+◌, ◌*◌, ◌<◌, ◌≤◌, length, get_or}
use Rattle.std.proofs.Common.{sym, ap₂, subst, ◌∙◌, not-suc-le-zero, arith}
use Rattle.ground.specs.Segment.{Segment}
use Rattle.field.specs.Field.{mul, inverse}
use Rattle.field.specs.Laws.{mul_comm, one-mul, mul-inverse, inverse-lt}
use Rattle.rows.specs.PlusRows.{PlusRows}
use Rattle.linear.specs.System.{at, Area, Eliminated, singular as singular_error}
use Rattle.linear.specs.Dot.{same_refl, same-trans}
use Rattle.linear.specs.Step.{Reduced, factor, Stepped, stepped}
use Rattle.linear.specs.Answer.{solution, kernel}
use Rattle.linear.specs.Frame.{PivotAt, stored_here, stored_past, exchanged, cleared}

-- h came from the area g by steps that reduced the first k columns; what lies past the area is as it was
pub record Progress (g : List ℕ) (n k : ℕ) (h : List ℕ) : Type 0 where
  pub upto : k ≤ n
  pub stepped : Stepped n k (at g n) (at h n)
  pub past : (i : ℕ) → n * (n + 1) ≤ i → get_or h i 0 ≡ get_or g i 0
  pub long : length h ≡ length g

pub progress-none : {g : List ℕ} {n : ℕ} → Area g n → Progress g n 0 g
progress-none a =
    record {
      upto = omega arith;
      stepped =
          record {
            small = record { below = a.small };
            same = same_refl;
            reduced = record { diagonal = λ c h. absurd (not-suc-le-zero h); beside = λ r c h l d. absurd (not-suc-le-zero l) };
          };
      past = λ i h. refl;
      long = refl;
    }

-- the step, and all the steps before it
pub progress-next : {g t h : List ℕ} {n k : ℕ} → Progress g n k t → Progress t n (k + 1) h → Progress g n (k + 1) h
progress-next a b =
    record {
      upto = b.upto;
      stepped = record { small = b.stepped.small; same = same-trans a.stepped.same b.stepped.same; reduced = b.stepped.reduced };
      past = λ i l. b.past i l ∙ a.past i l;
      long = b.long ∙ a.long;
    }

pub progress-area : {g h : List ℕ} {n k : ℕ} → Area g n → Progress g n k h → Area h n
progress-area a p = record { limit = a.limit; fits = omega (arith, a.fits, p.long); small = p.stepped.small.below }

-- One step: row k goes to p, row p over its entry in column k goes to k, and column k is cleared in the other rows.
pub step : {g t u h : List ℕ} {n k p x s : ℕ} {old new : ℕ → ℕ} → Area g n → Reduced n k (at g n) → PivotAt g n k p → x ≡ at g n p k → s ≡ inverse x
    → ((c : ℕ) → c ≤ n → old c ≡ mul 1 (at g n k c)) → ((c : ℕ) → c ≤ n → new c ≡ mul s (at g n p c))
    → Segment g (p * (n + 1)) (n + 1) old t → Segment t (k * (n + 1)) (n + 1) new u
    → PlusRows u 0 n (n + 1) (λ r c. mul (factor k (at u n) r) (new c)) h → Progress g n (k + 1) h
step {g} {t} {u} {h} {n} {k} {p} {x} {s} {old} {new} a red piv x-is s-is e-old e-new first second rest =
    record {
      upto = omega arith;
      stepped =
          stepped (record { below = a.small }) red piv.from piv.inside (rw s-is (inverse-lt x small)) unit
          (exchanged first second (λ c l. e-old c l ∙ one-mul (at g n k c) (a.small k c hk l)) e-new)
          (cleared rest (λ c l. sym (stored_here n k second c l)));
      past = λ i l. rest.high i (omega arith) ∙ stored_past n k second hk i l ∙ stored_past n p first piv.inside i l;
      long = rest.long ∙ second.long ∙ first.long;
    }
  where
    hk : k < n
    hk = omega (arith, piv)

    small : x < 16
    small = rw x-is (a.small p k piv.inside (omega (arith, hk)))

    unit : mul s (at g n p k) ≡ 1
    unit = ap₂ mul s-is (sym x-is) ∙ mul_comm (inverse x) x ∙ mul-inverse x small (λ e. piv.nonzero (sym x-is ∙ e))

-- ---- the answers

pub solved : {g h : List ℕ} {n k : ℕ} → Area g n → Progress g n k h → n ≤ k → Eliminated g n (Ok tt) h
solved {g} {h} {n} a p l =
    record {
      solved = λ e. solution a (subst (λ i. Stepped n i (at g n) (at h n)) (omega (arith, p.upto)) p.stepped);
      singular = λ e. cc;
      past = p.past;
      long = p.long;
    }

pub singular : {g h : List ℕ} {n k : ℕ} → Progress g n k h → k < n → ((r : ℕ) → k ≤ r → r < n → at h n r k ≡ 0) → Eliminated g n (Err singular_error) h
singular p l none =
    record {
      solved = λ e. cc;
      singular = λ e. kernel p.stepped l none;
      past = p.past;
      long = p.long;
    }
