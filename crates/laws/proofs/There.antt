-- FROM A MESSAGE TO ITS SYMBOL AND BACK, over the dictionary's own rows: a message is written as a text, the text as its best symbol; the
-- symbol is read as that text, and the text as the same message. Each step is a theorem of its own layer; this one joins them.
-- Assumes nothing.
use Prim.Native.Nat.{ℕ, ◌≤◌}
use mathlib.Core.List.{List}
use mathlib.Core.Path.{◌≡◌}
use lib.ListN.{length}
use Rattle.refusal.specs.Answers.{good}
use Rattle.refusal.specs.Limits.{limit, most_fields}
use Rattle.codeword.specs.Best.{Best}
use Rattle.optimum.proofs.Round.{Says, best_read}
use Rattle.dictionary.specs.Rows.{rows}
use Rattle.dictionary.proofs.Rows.{rows_distinct, rows_plain}
use Rattle.header.specs.Header.{Shaped}
use Rattle.text.specs.Text.{Message, Received, read_text, write_text, Admissible, SameMessage}
use Rattle.laws.proofs.Whole.{read_covers, write_back}
use Rattle.base32.specs.Base32.{Below}

-- writing what was read from an accepted text gives that text again, given room
pub covers : (t : List ℕ) (room : ℕ) (x : Received) → read_text rows room t ≡ good x → (out : ℕ) → length t ≤ out → write_text rows x.message t out ≡ good t
covers t room x e out h = read_covers rows t room x e out h

-- reading what was written from an admissible message gives the same message again
pub back : (m : Message) (source : List ℕ) → Shaped m.header → Below 256 m.signature → (t : List ℕ) → Admissible rows m source t → (list : ℕ) → most_fields ≤ list
    → (x : Received) × (read_text rows list t ≡ good x) × SameMessage x.message t m source
back m source = write_back rows rows_distinct rows_plain m source

-- what comes back from the symbol ws and from its text t
pub record Back (m : Message) (source t ws : List ℕ) (lent list : ℕ) : Type 0 where
  pub text : Says t ws lent
  pub reading : Received
  pub read : read_text rows list t ≡ good reading
  pub same : SameMessage reading.message t m source

pub there_and_back :
    (m : Message) (source : List ℕ) → Shaped m.header → Below 256 m.signature →
    (t : List ℕ) → Admissible rows m source t → (largest : ℕ) (ws : List ℕ) → Best t largest ws →
    (lent list : ℕ) → limit ≤ lent → most_fields ≤ list → Back m source t ws lent list
there_and_back m source shaped small t a largest ws B lent list h g =
    let r = back m source shaped small t a list g in
    record { text = best_read t largest ws lent B h; reading = r.0; read = r.1; same = r.2 }
