-- What signing promises of its answer and of the two buffers that it writes (page 01, "Keys, signing, verdict" and "Numbers a caller can receive").
-- Rests on scheme's oil choices, on sets' refusals and on packing. An outcome that meets `Signs` is the only one: Unique.
use Rattle.std.specs.Prelude.{◌≡◌, Result, Ok, ◌⊎◌, List, ◌++◌, ℕ, ◌<◌, length}
use Rattle.ground.specs.Answers.{first, numbered}
use Rattle.ground.specs.Answers.{number_of as refusal_number}
use Rattle.ground.specs.declared.Refusal.{Refusal}
use Rattle.ground.specs.Fill.{tab}
use Rattle.packing.specs.Packing.{packed}
use Rattle.sets.specs.declared.Set.{Set}
use Rattle.sets.specs.Sets.{variables, signature_count}
use Rattle.matrix.specs.Matrix.{Matrix}
use Rattle.matrix.specs.Same.{Same}
use Rattle.scheme.specs.Streams.{vinegar_of, signature_of}
use Rattle.scheme.specs.Maps.{private_change}
use Rattle.scheme.specs.Refusals.{sign_refusals}
use Rattle.scheme.specs.Oil.{entry_at, joined, Oil, Solves, OnlyZero, Redo as OilRedo}
use Rattle.rows.specs.Zero.{zeros}
use Rattle.signing.specs.declared.Signing.{Signing}
use Rattle.signing.specs.declared.Signing.TheVariants.{Done, Redo}

-- the page's number of done and redo
abbrev pub number_of_signing : Signing → ℕ
number_of_signing Done = 0
number_of_signing Redo = 2

-- and of an answer
abbrev pub number_of : Result Signing Refusal → ℕ
number_of = numbered number_of_signing

module _ (set : Set) where
  -- the U whose image is X, vinegar then oil: the private change is its own inverse
  abbrev pub solution_of : (private vinegar : List ℕ) (oil : ℕ → Matrix) → ℕ → Matrix
  solution_of private vinegar oil = private_change set private (joined set (vinegar_of set vinegar) oil)

  -- the signature that an oil choice gives: the elements of U packed, a zero in a spare half, then the salt
  unfoldable pub signature_with : (private vinegar salt : List ℕ) (oil : ℕ → Matrix) → List ℕ
  signature_with private vinegar salt oil = packed (tab (signature_count set) (entry_at set.l (solution_of private vinegar oil))) ++ salt

module _ (set : Set) (public abq private vinegar target : List ℕ) where
  -- some oil choice, not all zero, is sent to zero
  abbrev pub Again : Type 0
  Again = OilRedo set public abq private (vinegar_of set vinegar)

  -- a signature was found, and the output holds it
  pub record Emitted (salt output' : List ℕ) : Type 0 where
    -- only all-zero oil is sent to zero
    pub only_zero : OnlyZero set public abq private (vinegar_of set vinegar)
    -- the one oil choice that makes the central map equal the target
    pub oil : ℕ → Matrix
    pub choice : Oil set oil
    pub solves : Solves set public abq private (vinegar_of set vinegar) target oil
    -- the matrices of the signature are the U whose image is the vinegar and that oil
    pub holds : (j : ℕ) → j < variables set → Same set.l (signature_of set output' j) (solution_of set private vinegar oil j)
    -- every byte of it, the salt too
    pub bytes : output' ≡ signature_with set private vinegar salt oil

  -- What signing promises: r is the answer, work and output the lent buffers at entry, work' and output' at exit.
  pub record Signs (salt work output : List ℕ) (r : Result Signing Refusal) (work' output' : List ℕ) : Type 0 where
    -- 10 to 21 exactly on their conditions, the first in their order; every buffer as it was
    pub refused : (first (sign_refusals set public abq private vinegar target salt work output) ≡ 0 → ⊥)
        → (refusal_number r ≡ first (sign_refusals set public abq private vinegar target salt work output)) × ((work' ≡ work) × (output' ≡ output))
    -- nothing refused: done or redo
    pub answered : first (sign_refusals set public abq private vinegar target salt work output) ≡ 0 → (r ≡ Ok Done) ⊎ (r ≡ Ok Redo)
    -- redo only where some oil choice, not all zero, is sent to zero; the output as it was
    pub redo : r ≡ Ok Redo → Again × (output' ≡ output)
    -- done only where none is: the output holds the signature, whole
    pub done : r ≡ Ok Done → Emitted salt output'
    -- on done and redo the work area is all zero
    pub wiped : first (sign_refusals set public abq private vinegar target salt work output) ≡ 0 → work' ≡ zeros (length work)
