-- The answers as the C interface gives them: number 0 for acceptance, and the paper's number and place for a refusal.
use Rattle.std.specs.Prelude.{ℕ, List, ◌≡◌, length, replicate}
use Rattle.std.specs.declared.result.Result.{Result}
use Rattle.codeword.specs.Reading as reading
use Rattle.codeword.specs.Reading.{Reading}
use Rattle.symbol_writer.specs.declared.SymbolWritten.{SymbolWritten}
use Rattle.symbol_writer.specs.Promise.{Promised}
use Rattle.refusal.specs.Answers.{Answer as Says, good as accepts, refused as refuses}
use Rattle.refusal.specs.Said.{says}
use Rattle.refusal.specs.declared.Refusal.{Refusal}
use Rattle.dictionary.specs.declared.Field.{Field}
use Rattle.dictionary.specs.Rows.{rows}
use Rattle.conformity.specs.Conformity.{conforms}
use Rattle.header.specs.Header.{no_header}
use Rattle.text.specs.Text as text
use Rattle.text.specs.Text.{Received, read_text, write_text}
use Rattle.text_writer.specs.Writing.{written_over}
use Rattle.ddoc.specs.declared.Answer.{Answer}
use Rattle.ddoc.specs.declared.Message.{Message}
use Rattle.refusal.specs.Over.{over}

abbrev pub accepted : (length used : ℕ) → Answer
accepted n m = record { number = 0; place = 0; length = n; used = m }

abbrev pub refused : (number place : ℕ) → Answer
refused k p = record { number = k; place = p; length = 0; used = 0 }

abbrev pub reading_answer : Reading → Answer
reading_answer (reading.good t n b) = accepted (length t) n
reading_answer (reading.refused k p) = refused k p

abbrev pub writing_answer : Says SymbolWritten → Answer
writing_answer (accepts s) = accepted s.capacity s.used
writing_answer (refuses k p) = refused k p

-- the numbers of an answer that writing a symbol promises
pub record Writes (t : List ℕ) (largest work : ℕ) (old new : List ℕ) (r : Answer) : Type 0 where
  pub answer : Result SymbolWritten Refusal
  pub numbers : r ≡ writing_answer (says answer)
  pub promised : Promised t largest work old new answer

abbrev pub listing_answer : Says ℕ → Answer
listing_answer (accepts m) = accepted m 0
listing_answer (refuses k p) = refused k p

abbrev pub conformity_answer : Says (Unit {0}) → Answer
conformity_answer (accepts x) = accepted 0 0
conformity_answer (refuses k p) = refused k p

-- the counts, the header and the signature are zero where the text is refused
abbrev pub message_answer : Says Received → Message
message_answer (accepts x) = record {
  number = 0;
  place = 0;
  fields = length x.message.fields;
  signature_length = length x.message.signature;
  signed_length = x.signed;
  header = x.message.header;
  signature = over x.message.signature (replicate 132 0);
}
message_answer (refuses k p) = record { number = k; place = p; fields = 0; signature_length = 0; signed_length = 0; header = no_header; signature = replicate 132 0 }

-- the lent list after reading: the fields, and behind them what was there; as it was, where the text is refused
abbrev pub list_after : Says Received → List Field → List Field
list_after (accepts x) old = over x.message.fields old
list_after (refuses k p) old = old

abbrev pub written_answer : Says (List ℕ) → Answer
written_answer (accepts t) = accepted (length t) 0
written_answer (refuses k p) = refused k p

-- WHAT EACH EXPORTED FUNCTION over texts PROMISES of its answer, and of what it was lent
abbrev pub ReadTextPromised : (t : List ℕ) → (old new : List Field) → Message → Type 0
ReadTextPromised t old new r = (r ≡ message_answer (read_text rows (length old) t)) × (new ≡ list_after (read_text rows (length old) t) old)

abbrev pub WriteTextPromised : text.Message → (source old new : List ℕ) → Answer → Type 0
WriteTextPromised m source old new r = (r ≡ written_answer (write_text rows m source (length old))) × (new ≡ written_over (write_text rows m source (length old)) old)

abbrev pub ConformityAnswered : (type0 type1 : ℕ) → List Field → Answer → Type 0
ConformityAnswered a b l r = r ≡ conformity_answer (conforms a b l)
