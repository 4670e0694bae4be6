-- A result says one thing, and what it says tells it: the numbers of two reasons differ. By the reason that has a number. And no reason
-- has the number 0.
-- Assumes nothing.
use Rattle.std.specs.Prelude.{ℕ, zero, suc, ◌≡◌, ◌<◌, eqb, Ok, Err}
use Rattle.std.specs.declared.result.Result.{Result}
use mathlib.Core.Path.{refl, sym, ap, ap₂, ◌∙◌}
use native.Mathlib.Omega.{arith}
use Rattle.refusal.specs.declared.Reason.{Reason}
use Rattle.refusal.specs.declared.Reason.TheVariants.{CountNoCapacity, ForbiddenCodeword, PairOutside, WrongValue, TextTooLong, LentTooShort, CharacterAbove127, LargestNoCapacity, NoSizeFits, HeaderTooShort, NotDc, UnknownVersion, WrongHeaderCharacter, WrongPerimeter, NoMark, UnknownIdentifier, ZoneEndsInside, WrongCharacter, DataTooShort, IdentifierRepeated, SignatureLength, SignatureCharacter, SpareBits, Annex, DataTooLong, FixedCut, TooManyFields, TypeNotCovered, IdentifierMissing, IdentifierNotPermitted, BadRecord, SeveralBlocks, NoneNear, BadFile, FileFull, NoScan, CountFull, WrongPad}
use Rattle.refusal.specs.declared.Refusal.{Refusal}
use Rattle.refusal.specs.Pick.{pick}
use Rattle.refusal.specs.Said.{number_of, says}

abbrev reason_of : ℕ → Reason
reason_of n =
    pick (eqb n 1) CountNoCapacity (
    pick (eqb n 2) ForbiddenCodeword (
    pick (eqb n 3) PairOutside (
    pick (eqb n 4) WrongValue (
    pick (eqb n 5) TextTooLong (
    pick (eqb n 6) LentTooShort (
    pick (eqb n 7) CharacterAbove127 (
    pick (eqb n 8) LargestNoCapacity (
    pick (eqb n 9) NoSizeFits (
    pick (eqb n 10) HeaderTooShort (
    pick (eqb n 11) NotDc (
    pick (eqb n 12) UnknownVersion (
    pick (eqb n 13) WrongHeaderCharacter (
    pick (eqb n 14) WrongPerimeter (
    pick (eqb n 15) NoMark (
    pick (eqb n 16) UnknownIdentifier (
    pick (eqb n 17) ZoneEndsInside (
    pick (eqb n 18) WrongCharacter (
    pick (eqb n 19) DataTooShort (
    pick (eqb n 20) IdentifierRepeated (
    pick (eqb n 21) SignatureLength (
    pick (eqb n 22) SignatureCharacter (
    pick (eqb n 23) SpareBits (
    pick (eqb n 24) Annex (
    pick (eqb n 25) DataTooLong (
    pick (eqb n 26) FixedCut (
    pick (eqb n 27) TooManyFields (
    pick (eqb n 28) TypeNotCovered (
    pick (eqb n 29) IdentifierMissing (
    pick (eqb n 30) IdentifierNotPermitted (
    pick (eqb n 31) BadRecord (
    pick (eqb n 32) SeveralBlocks (
    pick (eqb n 34) NoneNear (
    pick (eqb n 35) BadFile (
    pick (eqb n 36) FileFull (
    pick (eqb n 37) NoScan (
    pick (eqb n 38) CountFull (
    WrongPad)))))))))))))))))))))))))))))))))))))

reason_back : (r : Reason) → reason_of (number_of r) ≡ r
reason_back CountNoCapacity = refl
reason_back ForbiddenCodeword = refl
reason_back PairOutside = refl
reason_back WrongValue = refl
reason_back TextTooLong = refl
reason_back LentTooShort = refl
reason_back CharacterAbove127 = refl
reason_back LargestNoCapacity = refl
reason_back NoSizeFits = refl
reason_back HeaderTooShort = refl
reason_back NotDc = refl
reason_back UnknownVersion = refl
reason_back WrongHeaderCharacter = refl
reason_back WrongPerimeter = refl
reason_back NoMark = refl
reason_back UnknownIdentifier = refl
reason_back ZoneEndsInside = refl
reason_back WrongCharacter = refl
reason_back DataTooShort = refl
reason_back IdentifierRepeated = refl
reason_back SignatureLength = refl
reason_back SignatureCharacter = refl
reason_back SpareBits = refl
reason_back Annex = refl
reason_back DataTooLong = refl
reason_back FixedCut = refl
reason_back TooManyFields = refl
reason_back TypeNotCovered = refl
reason_back IdentifierMissing = refl
reason_back IdentifierNotPermitted = refl
reason_back BadRecord = refl
reason_back SeveralBlocks = refl
reason_back NoneNear = refl
reason_back BadFile = refl
reason_back FileFull = refl
reason_back NoScan = refl
reason_back CountFull = refl
reason_back WrongPad = refl

pub same_reason : (r q : Reason) → number_of r ≡ number_of q → r ≡ q
same_reason r q e = sym (reason_back r) ∙ ap reason_of e ∙ reason_back q

-- No reason has the number 0, so that 0 can tell of no refusal: what has it would be the last reason.
pub no_zero : (r : Reason) → 0 < number_of r
no_zero r = go (number_of r) refl
  where
    go : (n : ℕ) → number_of r ≡ n → 0 < number_of r
    go zero e = let last : r ≡ WrongPad = sym (reason_back r) ∙ ap reason_of e in absurd (omega (arith, e, ap number_of last))
    go (suc n) e = omega (arith, e)

pub says_one : {A : Type 0} (r q : Result A Refusal) → says r ≡ says q → r ≡ q
says_one (Ok a) (Ok b) e = let same : a ≡ b = cc in ap Ok same
says_one (Ok a) (Err g) e = let z : ◌≡◌ {A = ℕ} 0 1 = cc in absurd (omega arith)
says_one (Err f) (Ok b) e = let z : ◌≡◌ {A = ℕ} 0 1 = cc in absurd (omega arith)
says_one {A} (Err f) (Err g) e =
    let number : number_of f.reason ≡ number_of g.reason = cc in
    let place : f.place ≡ g.place = cc in
    ap₂ (λ (r : Reason) (p : ℕ). Err (record { reason = r; place = p })) (same_reason f.reason g.reason number) place
