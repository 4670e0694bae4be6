-- The live records gathered, zeros behind them, their trailer over the zeros.
-- Assumes nothing.
use Prim.Native.Nat.{ℕ, ◌+◌, ◌-◌, ◌*◌, ◌≤◌}
use mathlib.Core.List.{List, ◌++◌, append_assoc}
use mathlib.Core.Path.{◌≡◌, sym, ap, ◌∙◌}
use native.Mathlib.Omega.{arith}
use lib.ListN.{length, take, drop, length-append, length-drop, replicate, length-replicate, replicate-append-replicate}
use borrow.Rule.Slice.PartMut.{put_mid}
use lib.Seq.{drop_at, drop-drop, length-take-le}
use Rattle.refusal.specs.Over.{over}
use Rattle.day_file.specs.File.{Scan, most_bytes, body, bytes_of}
use Rattle.day_file.specs.Opening.{scans, opened}
use Rattle.day_file.specs.Pieces.{put_at}
use Rattle.day_file.specs.declared.Opened.{Opened}
use Rattle.day_file.specs.Opens.{Opens}
use Rattle.day_file.proofs.Bytes.{Bytes}
use Rattle.day_file.proofs.Holding.{holds}
use Rattle.day_file.proofs.Numbered.{opened_is, Known, known}
use Rattle.squeeze.specs.inner.Code.{scans_in}
use Rattle.day_file.proofs.Good.{size_is}
use Rattle.day_file.proofs.Standing.{scans_of}
use Rattle.day_file.proofs.Putting.{take_put, length_put, part_put}
use Rattle.squeeze.specs.Squeeze.{live_ones, squeezed}
use Rattle.squeeze.proofs.Sizes.{squeezed_least}
use Rattle.squeeze.proofs.Gathered.{same_behind}

module _
    (s : List ℕ) (len : ℕ) (o : Opened) (y : Bytes s) (is_open : Opens (opened s len) o)
    (n : ℕ) (count : n ≡ length (live_ones (scans_in s len))) (to : ℕ) (at : to ≡ length (body (live_ones (scans_in s len))))
  where
    abbrev rs : List Scan
    rs = scans_in s len

    abbrev L : List Scan
    L = live_ones rs

    abbrev N : ℕ
    N = length (bytes_of L)

    its : Known s len o rs
    its = known s len o y is_open

    pub sizes : (to + 4 * n + 8 ≡ N) × (N ≤ len) × (len ≤ most_bytes) × (most_bytes ≤ length s)
    sizes = (
      omega (arith, count, size_is L),
      omega (arith, squeezed_least rs, size_is rs, its.count, its.trails, its.size),
      its.fits,
      (holds s len rs y (opened_is (opened s len) o is_open)).room,
    )

    -- the records gathered in g
    module _ (g : List ℕ) (front : take to g ≡ body L) (behind : drop o.trailer g ≡ drop o.trailer s) (long : length g ≡ length s) where
      abbrev Z : List ℕ
      Z = replicate (len - to) 0

      size_z : to + length Z ≡ len
      size_z = omega (arith, length-replicate {A = ℕ} (len - to) 0, sizes)

      in_slice : len ≤ length g
      in_slice = omega (arith, sizes, long)

      -- zeros behind them up to a place e
      module _ (e : ℕ) (low : to ≤ e) (high : e ≤ length g) (zs : List ℕ) (filled : zs ≡ replicate (length (take (e - to) (drop to g))) 0) where
        zeros : zs ≡ replicate (e - to) 0
        zeros = filled ∙ ap (λ (m : ℕ). replicate {A = ℕ} m 0) (length-take-le (e - to) (drop to g) (omega (arith, length-drop to g)))

        size_e : to + length (replicate {A = ℕ} (e - to) 0) ≡ e
        size_e = omega (arith, length-replicate {A = ℕ} (e - to) 0)

        cleared : put_mid to (e - to) g zs ≡ put_at g to (replicate (e - to) 0)
        cleared = part_put g zs to (e - to) (sym (ap length zeros ∙ length-replicate (e - to) 0)) ∙ ap (put_at g to) zeros

        front_k : take to (put_mid to (e - to) g zs) ≡ body L
        front_k = ap (take to) cleared ∙ take_put g to (replicate (e - to) 0) (omega arith) ∙ front

        scans_k : scans n (take to (put_mid to (e - to) g zs)) ≡ L
        scans_k = ap (λ m. scans m (take to (put_mid to (e - to) g zs))) count ∙ ap (scans (length L)) front_k ∙ scans_of L

        pub trailer_fits : (body (scans n (take to (put_mid to (e - to) g zs))) ≡ take to (put_mid to (e - to) g zs)) × (to + 4 * n + 8 ≤ most_bytes) × (most_bytes ≤ length (put_mid to (e - to) g zs))
        trailer_fits = (
          ap body scans_k ∙ sym front_k,
          omega (arith, sizes),
          omega (arith, ap length cleared ∙ length_put g to (replicate (e - to) 0) (omega (arith, size_e)), long, sizes),
        )

      -- up to the old end
      module _ (zs : List ℕ) (filled : zs ≡ replicate (length (take (len - to) (drop to g))) 0) where
        abbrev k : List ℕ
        k = put_mid to (len - to) g zs

        low : to ≤ len
        low = omega (arith, sizes)

        behind_k : drop N k ≡ replicate (len - N) 0 ++ drop len s
        behind_k =
            let a : length (take to g) ≡ to = length-take-le to g (omega (arith, size_z, in_slice)) in
            let n : N ≡ to + (N - to) = omega (arith, sizes) in
            let z : len - to ≡ N - to + (len - N) = omega (arith, sizes) in
            let w : o.trailer ≤ len = omega (arith, its.size, its.within) in
            ap (drop N) (cleared len low in_slice zs filled ∙ append_assoc (take to g) Z (drop (to + length Z) g))
            ∙ ap (λ m. drop m (take to g ++ (Z ++ drop (to + length Z) g))) n
            ∙ sym (drop-drop (N - to) to (take to g ++ (Z ++ drop (to + length Z) g)))
            ∙ ap (drop (N - to)) (drop_at (take to g) (Z ++ drop (to + length Z) g) to a)
            ∙ ap (λ m. drop (N - to) (Z ++ drop m g)) size_z
            ∙ ap (λ m. drop (N - to) (replicate m 0 ++ drop len g)) z
            ∙ ap (λ m. drop (N - to) (m ++ drop len g)) (sym (replicate-append-replicate (N - to) (len - N) 0))
            ∙ ap (drop (N - to)) (append_assoc (replicate (N - to) 0) (replicate (len - N) 0) (drop len g))
            ∙ drop_at (replicate (N - to) 0) (replicate (len - N) 0 ++ drop len g) (N - to) (length-replicate (N - to) 0)
            ∙ ap (λ m. replicate (len - N) 0 ++ m) (same_behind g s o.trailer len behind w)

        pub whole_is : over (bytes_of (scans n (take to k))) k ≡ over (squeezed len rs) s
        whole_is =
            let m : length (squeezed len rs) ≡ len = length-append (bytes_of L) (replicate (len - N) 0) ∙ ap (λ j. N + j) (length-replicate (len - N) 0) ∙ omega (arith, sizes) in
            ap (λ l. over (bytes_of l) k) (scans_k len low in_slice zs filled)
            ∙ ap (λ l. bytes_of L ++ l) behind_k
            ∙ sym (append_assoc (bytes_of L) (replicate (len - N) 0) (drop len s))
            ∙ ap (λ j. squeezed len rs ++ drop j s) (sym m)
