-- The linear system and its elimination, in page 01's words: what elimination finds of the built system is the one oil choice that solves, or the redo.
-- Rests on linear's Solution and Kernel and on scheme's rows of coefficients.
use Rattle.std.specs.Prelude.{◌≡◌, Result, Ok, Err, List, ℕ, ◌*◌, ◌/◌, ◌%◌, ◌<◌}
use Rattle.std.proofs.Math.Path.{sym, ap}
use Rattle.std.proofs.Common.{◌∙◌}
use Rattle.algebra.specs.Sum.{sum-cong}
use Rattle.field.specs.Field.{add, mul}
use Rattle.field.specs.FieldRing.{field-ring}
use Rattle.packing.specs.Packing.{element}
use Rattle.sets.specs.declared.Set.{Set}
use Rattle.sets.specs.Sets.{unknowns}
use Rattle.scheme.specs.Streams.{vinegar_of}
use Rattle.scheme.specs.Maps.{vinegar_part}
use Rattle.scheme.specs.Oil.{entry_at, oil_from, oil-from, Oil, Solves, OnlyZero}
use Rattle.scheme.specs.Coefficients.{coefficient_at, row_times}
use Rattle.scheme.proofs.Coefficients.{only_zero-rows, redo-rows, solution-rows}
use Rattle.linear.specs.System.{at, apply, Solution, Kernel, singular, Eliminated}
use Rattle.linear.specs.declared.Singular.{Singular}
use Rattle.signing.specs.Signs.{Again, Emitted, signature_with}
use Rattle.signing.specs.Signature.{signature-holds}

module _ (set : Set) (public abq private vinegar target : List ℕ) where
  -- the area holds the system: row y is entry y of the linear part, column N the vinegar part plus the target
  pub record Built (g : List ℕ) : Type 0 where
    pub coefficients : (y e : ℕ) → y < unknowns set → e < unknowns set
        → at g (unknowns set) y e
        ≡ coefficient_at set public abq private (vinegar_of set vinegar) (y / (set.l * set.l)) (y % (set.l * set.l) / set.l) (y % set.l) e
    pub right : (y : ℕ) → y < unknowns set
        → at g (unknowns set) y (unknowns set) ≡ add (entry_at set.l (vinegar_part set public abq (vinegar_of set vinegar)) y) (element target y)

  -- the unknowns s are elements and solve, and only all-zero oil is sent to zero
  pub record FoundOil (s : ℕ → ℕ) : Type 0 where
    pub small : (e : ℕ) → e < unknowns set → s e < 16
    pub solves : Solves set public abq private (vinegar_of set vinegar) target (oil_from set.l s)
    pub only_zero : OnlyZero set public abq private (vinegar_of set vinegar)

  -- What solving promises of its answer and of the area that it leaves, a solution in column N.
  pub record Solving (r : Result Unit Singular) (h : List ℕ) : Type 0 where
    pub solved : r ≡ Ok tt → FoundOil (λ e. at h (unknowns set) e (unknowns set))
    pub singular : r ≡ Err singular → Again set public abq private vinegar target

module _ {set : Set} {public abq private vinegar target : List ℕ} {g : List ℕ} (p : 0 < set.l) (b : Built set public abq private vinegar target g) where
  -- a row of the area applied to unknowns is the row of the linear part
  built-row : (s : ℕ → ℕ) (y : ℕ) → y < unknowns set → apply g (unknowns set) s y ≡ row_times set public abq private (vinegar_of set vinegar) s y
  unfolding apply row_times unknowns
  built-row s y h = sum-cong field-ring (set.o * (set.l * set.l)) (λ e l. ap (λ x. mul x (s e)) (b.coefficients y e h l))

  found-oil : {s : ℕ → ℕ} → Solution g (unknowns set) s → FoundOil set public abq private vinegar target s
  unfolding unknowns
  found-oil {s} f = record {
    small = f.small;
    solves = solution-rows set public abq private (vinegar_of set vinegar) p target s (λ y h. sym (built-row s y h) ∙ f.solves y h ∙ b.right y h);
    only_zero = (only_zero-rows set public abq private (vinegar_of set vinegar) p).1 (λ z l t. f.trivial z l (λ y h. built-row z y h ∙ t y h));
  }

  found-again : Kernel g (unknowns set) → Again set public abq private vinegar target
  unfolding unknowns
  found-again k =
      redo-rows set public abq private (vinegar_of set vinegar) p k.y k.small (λ y h. sym (built-row k.y y h) ∙ k.sent y h)
      (λ z. k.nonzero (z k.place k.inside))

  pub solving : {r : Result Unit Singular} {h : List ℕ} → Eliminated g (unknowns set) r h → Solving set public abq private vinegar target r h
  solving e = record { solved = λ q. found-oil (e.solved q); singular = λ q. found-again (e.singular q) }

-- the oil that was found, written with the salt, is what signing promises to emit
pub emitted : {set : Set} {public abq private vinegar target salt output' : List ℕ} {s : ℕ → ℕ} → 0 < set.l → FoundOil set public abq private vinegar target s
    → output' ≡ signature_with set private vinegar salt (oil_from set.l s) → Emitted set public abq private vinegar target salt output'
unfolding unknowns
emitted {set} {private = private} {vinegar = vinegar} {salt = salt} {s = s} p f e =
    let choice : Oil set (oil_from set.l s) = oil-from p s f.small in
    record {
      only_zero = f.only_zero;
      oil = oil_from set.l s;
      choice = choice;
      solves = f.solves;
      holds = λ j h. rw e (signature-holds set private vinegar salt choice j h);
      bytes = e;
    }
