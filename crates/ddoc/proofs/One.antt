-- What each exported function promises, of its answer and of what was lent, leaves one answer. The promises over texts are the contracts' own
-- definitions. All promises are equations but that of writing a symbol, which speaks of the best symbol, which is one, and that of printing check
-- words, which speaks of the words that make the list right, which are one.
-- Assumes nothing.
use Prim.Native.Nat.{ℕ}
use mathlib.Core.List.{List}
use mathlib.Core.Path.{◌≡◌, refl, ap, sym, ◌∙◌}
use lib.ListN.{length}
use Rattle.codeword.specs.Reading.{read_symbol}
use Rattle.symbol_reader.specs.Answers.{lent_after}
use Rattle.symbol_writer.proofs.Promise as symbol-writer
use Rattle.galois.specs.Polynomial.{Bytes}
use Rattle.check_words.specs.Answers.{words_of, Left}
use Rattle.check_words.proofs.Promise as check-words-promise
use Rattle.dictionary.specs.declared.Field.{Field}
use Rattle.text.specs.Text as text
use Rattle.day_file.specs.Promise.{adding, withdrawing, placing, slice_after}
use Rattle.ddoc.specs.declared.Answer.{Answer}
use Rattle.ddoc.specs.declared.Message.{Message}
use Rattle.ddoc.specs.declared.Part.{Part}
use Rattle.ddoc.specs.Answers.{reading_answer, writing_answer, Writes, listing_answer, ReadTextPromised, WriteTextPromised, ConformityAnswered}
use Rattle.squeeze.specs.Squeeze.{squeezing, squeezed_slice, olds_after, news_after}
use Rattle.tally.specs.Counting.{counting, tally_after}
use Rattle.refusal.specs.Said.{says}
use Rattle.tally.specs.declared.Tally.{Tally}
use Rattle.ddoc.specs.Files.{added_numbers, withdrawn_numbers, part_numbers, squeezed_numbers, tallied_numbers}

abbrev ReadsSymbol : (codewords old new : List ℕ) → Answer → Type 0
ReadsSymbol ws old new r = (r ≡ reading_answer (read_symbol ws (length old))) × (new ≡ lent_after (read_symbol ws (length old)) old)

pub read_symbol_law : (ws old new new' : List ℕ) (r r' : Answer) → ReadsSymbol ws old new r → ReadsSymbol ws old new' r' → (r ≡ r') × (new ≡ new')
read_symbol_law ws old new new' r r' p q = (p.0 ∙ sym q.0, p.1 ∙ sym q.1)

pub write_symbol_law : (t : List ℕ) (largest work : ℕ) (old new new' : List ℕ) (r r' : Answer) →
    Writes t largest work old new r → Writes t largest work old new' r' → (r ≡ r') × (new ≡ new')
write_symbol_law t largest work old new new' r r' p q =
    let e = symbol-writer.only_one t largest old work new new' p.answer q.answer p.promised q.promised in
    (p.numbers ∙ ap (λ a. writing_answer (says a)) e.0 ∙ sym q.numbers, e.1)

abbrev ChecksWords : (ds old new : List ℕ) → Answer → Type 0
ChecksWords ds old new r = (r ≡ listing_answer (words_of (length ds) (length old))) × Left (words_of (length ds) (length old)) ds old new

-- the data are a slice of bytes
pub check_words_law : (ds old new new' : List ℕ) (r r' : Answer) → Bytes ds → ChecksWords ds old new r → ChecksWords ds old new' r' → (r ≡ r') × (new ≡ new')
check_words_law ds old new new' r r' by p q =
    (p.0 ∙ sym q.0, check-words-promise.left_one (words_of (length ds) (length old)) ds old new new' refl by p.1 q.1)

pub read_text_law : (t : List ℕ) (old new new' : List Field) (r r' : Message) → ReadTextPromised t old new r → ReadTextPromised t old new' r' → (r ≡ r') × (new ≡ new')
read_text_law t old new new' r r' p q = (p.0 ∙ sym q.0, p.1 ∙ sym q.1)

pub write_text_law : (m : text.Message) (source old new new' : List ℕ) (r r' : Answer) → WriteTextPromised m source old new r → WriteTextPromised m source old new' r' → (r ≡ r') × (new ≡ new')
write_text_law m source old new new' r r' p q = (p.0 ∙ sym q.0, p.1 ∙ sym q.1)

pub conformity : (a b : ℕ) (l : List Field) (r r' : Answer) → ConformityAnswered a b l r → ConformityAnswered a b l r' → r ≡ r'
conformity a b l r r' p q = p ∙ sym q

abbrev Adds : (old : List ℕ) (len : ℕ) (text new : List ℕ) → Answer → Type 0
Adds old len t new r = (r ≡ added_numbers (adding old len t)) × (new ≡ slice_after (adding old len t) old)

pub day_add : (old : List ℕ) (len : ℕ) (t new new' : List ℕ) (r r' : Answer) → Adds old len t new r → Adds old len t new' r' → (r ≡ r') × (new ≡ new')
day_add old len t new new' r r' p q = (p.0 ∙ sym q.0, p.1 ∙ sym q.1)

abbrev Withdraws : (old : List ℕ) (len number : ℕ) (new : List ℕ) → Answer → Type 0
Withdraws old len k new r = (r ≡ withdrawn_numbers len (withdrawing old len k)) × (new ≡ slice_after (withdrawing old len k) old)

pub day_withdraw : (old : List ℕ) (len k : ℕ) (new new' : List ℕ) (r r' : Answer) → Withdraws old len k new r → Withdraws old len k new' r' → (r ≡ r') × (new ≡ new')
day_withdraw old len k new new' r r' p q = (p.0 ∙ sym q.0, p.1 ∙ sym q.1)

abbrev Fetches : (file : List ℕ) (len number : ℕ) → Part → Type 0
Fetches file len k r = r ≡ part_numbers (placing file len k)

pub day_fetch : (file : List ℕ) (len k : ℕ) (r r' : Part) → Fetches file len k r → Fetches file len k r' → r ≡ r'
day_fetch file len k r r' p q = p ∙ sym q

pub record Squeezes (file : List ℕ) (len : ℕ) (olds news file' olds' news' : List ℕ) (r : Answer) : Type 0 where
  pub answer : r ≡ squeezed_numbers (squeezing file len (length olds) (length news))
  pub lent : file' ≡ squeezed_slice len (squeezing file len (length olds) (length news)) file
  pub old : olds' ≡ olds_after (squeezing file len (length olds) (length news)) olds
  pub new : news' ≡ news_after (squeezing file len (length olds) (length news)) news

pub day_squeeze : (f : List ℕ) (len : ℕ) (os ns f₁ os₁ ns₁ f₂ os₂ ns₂ : List ℕ) (r₁ r₂ : Answer)
    → Squeezes f len os ns f₁ os₁ ns₁ r₁ → Squeezes f len os ns f₂ os₂ ns₂ r₂ → (r₁ ≡ r₂) × (f₁ ≡ f₂) × (os₁ ≡ os₂) × (ns₁ ≡ ns₂)
day_squeeze f len os ns f₁ os₁ ns₁ f₂ os₂ ns₂ r₁ r₂ p q = (p.answer ∙ sym q.answer, p.lent ∙ sym q.lent, p.old ∙ sym q.old, p.new ∙ sym q.new)

abbrev Tallies : (old : Tally) (file : List ℕ) (new : Tally) → Answer → Type 0
Tallies old f new r = (r ≡ tallied_numbers (counting f old)) × (new ≡ tally_after (counting f old) old)

pub tally_add : (old : Tally) (f : List ℕ) (new new' : Tally) (r r' : Answer) → Tallies old f new r → Tallies old f new' r' → (r ≡ r') × (new ≡ new')
tally_add old f new new' r r' p q = (p.0 ∙ sym q.0, p.1 ∙ sym q.1)
