-- What a check is refused for.
use Rattle.std.proofs.Common.{◌≡◌, ◌≢◌, ℕ, ◌≤◌, ◌<◌, List, length, map, refl, arith, ⊎_elim}
use Rattle.std.specs.List.{AllByRecursion}
use Rattle.std.proofs.lemmas.Bool.{cases_lt}
use Rattle.fz_filling.specs.of_syntax.SyntaxError.{SyntaxError}
use Rattle.fz_filling.specs.of_syntax.SyntaxError.TheVariants as syntax
use Rattle.fz_filling.specs.of_syntax.Places.{most_bytes}
use Rattle.fz_filling.specs.of_syntax.Limits.{Limits}
use Rattle.fz_filling.specs.of_syntax.Offering.{IsRefusedWithin}
use Rattle.fz_filling.specs.of_stream.declared.error.StreamError.{StreamError}
use Rattle.fz_filling.specs.of_stream.declared.error.StreamError.TheVariants as stream
use Rattle.fz_filling.specs.of_stream.Faults.{IsStreamFault}
use Rattle.fz_filling.specs.of_stream.Parts.{StreamPart}
use Rattle.fz_filling.specs.of_stream.Broken.{StopsAfter}
use Rattle.fz_search.specs.of_model.Meaning.{Model}
use Rattle.fz_search.specs.of_model.Texts.{IsLoadedFrom}
use Rattle.fz_filling.specs.of_stream.Found.{HasPlaces, IsReadAs, block_of, IsStreamText}
use Rattle.fz_filling.specs.of_stream.declared.reading.Claim.{Claim}
use Rattle.fz_filling.specs.of_stream.declared.block.Block as the_block
use Rattle.fz_check.specs.declared.error.CheckError.{CheckError}
use Rattle.fz_check.specs.declared.error.CheckError.TheVariants as errors
use Rattle.fz_check.specs.Refused.{HasStreamFault, IsRefusal, HasTextFault, IsBroken}
use Rattle.fz_check.specs.Telling.{IsJudgingRefusal, IsStreamRefusal, stream_refusal}

-- ---- texts

pub text_fault : (limits : Limits) (model : List ℕ) (e : SyntaxError) → e ≢ syntax.Memory
    → IsRefusedWithin limits model e → (e ≡ syntax.TooLong → limits.bytes < length model)
    → (limits.bytes < length model → e ≡ syntax.TooLong) → HasTextFault limits model e
text_fault limits model e other refused long too_long = record { no_tree = λ t text. other (refused.no_tree t text); too_long = (long, too_long); order = refused.order; place = refused.place; not_memory = other }

-- ---- streams

broken_by : (bytes : List ℕ) (e : StreamError) → e ≢ stream.Memory → e ≢ stream.TooLong
    → (e ≢ stream.TooLong → length bytes ≤ most_bytes)
    → (e ≢ stream.Memory → e ≢ stream.TooLong → (parts : List StreamPart) → IsStreamText bytes parts → ⊥)
    → (e ≢ stream.Memory → e ≢ stream.TooLong → (parts : List StreamPart) × StopsAfter bytes parts e) → IsStreamFault e → IsBroken bytes e
broken_by bytes e memory long short none stops fault =
    let (before, stopped) = stops memory long in
    record { short = short long; no_parts = none memory long; before = before; stops = stopped; fault = fault }

-- what a fault of a stream is, by the clauses that tell of it
stream_fault_is : (bytes : List ℕ) (e : StreamError) → (e ≡ stream.TooLong
    → most_bytes < length bytes) → (e ≢ stream.TooLong → length bytes ≤ most_bytes)
    → (e ≢ stream.Memory → e ≢ stream.TooLong → (parts : List StreamPart) → IsStreamText bytes parts → ⊥)
    → (e ≢ stream.Memory → e ≢ stream.TooLong → (parts : List StreamPart) × StopsAfter bytes parts e) → IsStreamFault e → (e ≡ stream.Memory → ⊥) → HasStreamFault bytes e
stream_fault_is bytes stream.TooLong long short none stops fault other = long refl
stream_fault_is bytes stream.Memory long short none stops fault other = other refl
stream_fault_is bytes stream.Failed long short none stops fault other = absurd fault
stream_fault_is bytes e long short none stops fault other = broken_by bytes e (λ m. cc) (λ m. cc) short none stops fault

-- bytes that aren't refused as too many are not
short_of : (n most : ℕ) → (most < n → ⊥) → n ≤ most
short_of n most long = ⊎_elim (λ l. absurd (long l)) (λ h. omega (arith, h)) (cases_lt most n)

pub stream_fault_on : (bytes : List ℕ) (e : StreamError)
    → (e ≡ stream.TooLong → most_bytes < length bytes)
    → (most_bytes < length bytes → e ≡ stream.TooLong)
    → (e ≢ stream.Memory → e ≢ stream.TooLong → (parts : List StreamPart) → IsStreamText bytes parts → ⊥)
    → (e ≢ stream.Memory → e ≢ stream.TooLong → (parts : List StreamPart) × StopsAfter bytes parts e) → IsStreamFault e → IsStreamRefusal bytes (stream_refusal e)
stream_fault_on bytes e long too_long none stops fault =
    by e (stream_fault_is bytes e long (λ other. short_of (length bytes) most_bytes (λ l. other (too_long l))) none stops fault)
  where
    by : (f : StreamError) → ((f ≡ stream.Memory → ⊥) → HasStreamFault bytes f)
        → IsStreamRefusal bytes (stream_refusal f)
    by stream.Memory is = tt
    by f is = is (λ m. cc)

-- ---- blocks

-- what a block is refused for, where the model and the stream are read
pub block_refused : (model bytes : List ℕ) (m : Model) (blocks : List the_block.Block)
    (claims : List Claim) → IsLoadedFrom model m → length bytes ≤ most_bytes
    → IsReadAs bytes (map block_of blocks) claims → AllByRecursion HasPlaces blocks
    → (e : CheckError) → IsJudgingRefusal m blocks e → IsRefusal model bytes e
block_refused model bytes m blocks claims loaded short read places (errors.Block n e) h = record {
  m = m;
  loaded = loaded;
  holds = record { short = short; parts = read.parts; text_of_stream = read.text; blocks = blocks; blocks_are = read.blocks_are; places = places; first = h };
}
block_refused model bytes m blocks claims loaded short read places errors.Memory h = tt
block_refused model bytes m blocks claims loaded short read places _ h = absurd h
