-- The whole text: what reading it answers by the answers for header, zone and signature, and where its mark stands.
-- Assumes nothing.
use Rattle.std.proofs.Common.{ℕ, Option, Some, suc, ◌≡◌, ◌+◌, ◌-◌, ◌≤◌, ◌<◌, List, length, take, drop, length-drop, add-one, arith, refl, sym, ap, ◌∙◌}
use Rattle.std.proofs.Math.Seq.{slice, length-slice, take_all}
use Rattle.refusal.specs.Answers.{Answer, good, refused}
use Rattle.refusal.specs.Said.{turned}
use Rattle.header.specs.declared.HeaderRead.{HeaderRead}
use Rattle.header.specs.declared.Version.{Version}
use Rattle.header.specs.Header.{Headed, size, read_header}
use Rattle.header.specs.inner.Code.{head_read}
use Rattle.text.specs.Signature.{read_signature}
use Rattle.text.specs.Text.{at_mark}
use Rattle.text.specs.inner.Code.{zone_end_says, kept_bytes}
use Rattle.text_reader.proofs.Marks.{header_long, mark_within}

pub unkept : (v : Version) (p : ℕ) (l : List ℕ) → read_signature v p l ≡ turned (λ s. s.items) (turned kept_bytes (read_signature v p l))
unkept v p l = go (read_signature v p l)
  where
    go : (x : Answer (List ℕ)) → x ≡ turned (λ s. s.items) (turned kept_bytes x)
    go (good l) = refl
    go (refused k p) = refl

pub signed_is : (from m : ℕ) (t : List ℕ) → from ≤ m → m ≤ length t → from + length (slice from m t) ≡ m
signed_is from m t h k = omega (arith, length-slice from m t k)

pub rest_is : (m : ℕ) (t : List ℕ) → m < length t → take (length t - (m + 1)) (drop (m + 1) t) ≡ drop (suc m) t
rest_is m t h = rw (add-one m) (take_all (length t - suc m) (drop (suc m) t) (omega (arith, length-drop (suc m) t)))

pub headed : (t : List ℕ) → read_header t ≡ turned (λ x. record { version = x.version; header = x.header }) (turned head_read (read_header t))
headed t = go (read_header t)
  where
    go : (x : Answer Headed) → x ≡ turned (λ x. record { version = x.version; header = x.header }) (turned head_read x)
    go (good x) = refl
    go (refused k p) = refl

pub header_fits : (t : List ℕ) (h : HeaderRead) → good h ≡ turned head_read (read_header t) → size h.version ≤ length t
header_fits t h e = header_long t (record { version = h.version; header = h.header }) (headed t ∙ ap (turned (λ x. record { version = x.version; header = x.header })) (sym e))

pub mark_fits : (from m : ℕ) (t : List ℕ) (o : Option ℕ) → from ≤ length t → zone_end_says o from t ≡ at_mark from (drop from t) → o ≡ Some m → (from ≤ m) × (m < length t)
mark_fits from m t o h says e = mark_within from m t h (sym says ∙ ap (λ o. zone_end_says o from t) e)
