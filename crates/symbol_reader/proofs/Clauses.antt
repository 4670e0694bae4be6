-- The clauses of `read` for the codewords from the place p on, over the length of the list and the codewords that stand there; then
-- what follows with the text so far and the place in front.
-- Assumes nothing.
use Rattle.std.proofs.Common.{ℕ, ◌≡◌, ◌≤◌, ◌<◌, ◌+◌, List, Bool, false, true, ltb, suc, length, get_or, drop, drop-cons, arith, refl, add-one, add-zero}
use Rattle.std.proofs.Math.ListN.{drop_of_length-le}
use borrow.Author.Tests.{eq-eqb, ne_eqb, ltb-true, ltb-false}
use Rattle.refusal.specs.Numbers.{wrong_value}
use Rattle.refusal.specs.Answers as answer
use Rattle.codeword.specs.declared.Set.{Set}
use Rattle.codeword.specs.declared.Set.TheVariants.{Basic}
use Rattle.codeword.specs.declared.Ascii.TheVariants.{One, Two, Latch, Pad}
use Rattle.codeword.specs.declared.Lone.TheVariants.{Ends, Last}
use Rattle.codeword.specs.Meanings.{ascii, lone, pair, unfinished}
use Rattle.codeword.specs.Reading.{give, on_ascii, on_lone, on_pair, finish, end, behind, in_ascii, in_c40, read}
use Rattle.symbol_reader.specs.Steps.{Read, reads}
use Rattle.symbol_reader.proofs.After.{after_end, after_tick}

module _ (ws : List ℕ) (p r : ℕ) where
  pub ascii_at : p < length ws → read (drop p ws) in_ascii r ≡ on_ascii (ascii (get_or ws p 0)) (read (drop (p + 1) ws) in_ascii) (read (drop (p + 1) ws) (in_c40 Basic)) r
  unfolding read
  ascii_at h = rw (drop-cons ws p 0 h, add-one) refl

  module _ (s : Set) where
    c40_none : length ws ≤ p → read (drop p ws) (in_c40 s) r ≡ finish s (end 0 false) r
    unfolding read
    c40_none h = rw (drop_of_length-le ws {i = p} h) refl

    pub c40_lone : p + 1 ≡ length ws → read (drop p ws) (in_c40 s) r ≡ finish s (on_lone (lone (get_or ws p 0))) r
    unfolding read
    c40_lone h = rw (drop-cons ws p 0 (omega arith), drop_of_length-le ws {i = suc p} (omega arith)) refl

    pub c40_254 : p + 1 < length ws → get_or ws p 0 ≡ 254 → read (drop p ws) (in_c40 s) r ≡ finish s (behind (read (drop (p + 1) ws) in_ascii)) r
    unfolding read
    c40_254 h e = rw (drop-cons ws p 0 (omega arith), add-one, drop-cons ws (suc p) 0 (omega arith), eq-eqb _ 254 e) refl

    pub c40_pair : p + 1 < length ws → (get_or ws p 0 ≡ 254 → ⊥)
        → read (drop p ws) (in_c40 s) r ≡ on_pair (pair (get_or ws p 0) (get_or ws (p + 1) 0)) s (λ s'. read (drop (p + 2) ws) (in_c40 s')) r
    unfolding read
    c40_pair h e =
        let two : p + 2 ≡ suc (suc p) = omega arith in
        rw (drop-cons ws p 0 (omega arith), add-one, two, drop-cons ws (suc p) 0 (omega arith), ne_eqb _ 254 e) refl

module _ (t ws : List ℕ) (p : ℕ) where
  pub ascii_ends : length ws ≤ p → ◌≡◌ {A = Read} (answer.good (t, p)) (reads t p (read (drop p ws) in_ascii))
  unfolding read
  ascii_ends h = rw (drop_of_length-le ws {i = p} h, after_end, add-zero) refl

  pub ascii_one : (c : ℕ) → p < length ws → ascii (get_or ws p 0) ≡ One c
      → reads t p (give c (behind (read (drop (p + 1) ws) in_ascii))) ≡ reads t p (read (drop p ws) in_ascii)
  ascii_one c h e = rw (ascii_at ws p _ h, e) refl

  pub ascii_two : (c d : ℕ) → p < length ws → ascii (get_or ws p 0) ≡ Two c d
      → reads t p (give c (give d (behind (read (drop (p + 1) ws) in_ascii)))) ≡ reads t p (read (drop p ws) in_ascii)
  ascii_two c d h e = rw (ascii_at ws p _ h, e) refl

  pub ascii_latch : p < length ws → ascii (get_or ws p 0) ≡ Latch → reads t (p + 1) (read (drop (p + 1) ws) (in_c40 Basic)) ≡ reads t p (read (drop p ws) in_ascii)
  ascii_latch h e = rw (ascii_at ws p _ h, e, after_tick) refl

  pub ascii_pad : p < length ws → ascii (get_or ws p 0) ≡ Pad → ◌≡◌ {A = Read} (answer.good (t, p)) (reads t p (read (drop p ws) in_ascii))
  ascii_pad h e = rw (ascii_at ws p _ h, e, after_end, add-zero) refl

  module _ (s : Set) where
    pub c40_ends : unfinished s ≡ false → length ws ≤ p → ◌≡◌ {A = Read} (answer.good (t, p)) (reads t p (read (drop p ws) (in_c40 s)))
    c40_ends u h = rw (c40_none ws p _ s h, u, after_end, add-zero) refl

    pub c40_lone_ends : unfinished s ≡ false → p + 1 ≡ length ws → lone (get_or ws p 0) ≡ Ends → ◌≡◌ {A = Read} (answer.good (t, p + 1)) (reads t p (read (drop p ws) (in_c40 s)))
    c40_lone_ends u h e = rw (c40_lone ws p _ s h, u, e, after_end) refl

    pub c40_back : unfinished s ≡ false → p + 1 < length ws → get_or ws p 0 ≡ 254 → reads t (p + 1) (read (drop (p + 1) ws) in_ascii) ≡ reads t p (read (drop p ws) (in_c40 s))
    c40_back u h e = rw (c40_254 ws p _ s h e, u, after_tick) refl

    pub c40_waits : unfinished s ≡ true → length ws ≤ p + 1 → ◌≡◌ {A = Read} (answer.refused wrong_value p) (reads t p (read (drop p ws) (in_c40 s)))
    c40_waits u h = go (ltb p (length ws)) refl
      where
        go : (b : Bool) → ltb p (length ws) ≡ b → ◌≡◌ {A = Read} (answer.refused wrong_value p) (reads t p (read (drop p ws) (in_c40 s)))
        go true e = rw (c40_lone ws p _ s (omega (arith, ltb-true _ _ e)), u, add-zero) refl
        go false e = rw (c40_none ws p _ s (ltb-false _ _ e), u, add-zero) refl

    pub c40_last : (c : ℕ) → unfinished s ≡ false → p + 1 ≡ length ws → lone (get_or ws p 0) ≡ Last c
        → reads t p (give c (end 1 false)) ≡ reads t p (read (drop p ws) (in_c40 s))
    c40_last c u h e = rw (c40_lone ws p _ s h, u, e) refl
