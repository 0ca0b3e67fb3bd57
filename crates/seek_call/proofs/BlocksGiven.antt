-- Blocks of files, one file behind the other.
use Rattle.std.proofs.Common.{◌≡◌, ◌++◌, ◌+◌, ◌<◌, ◌∙◌, ℕ, List, [], ◌∷◌, Option, Some, None, Result, Ok, Err, IfOk, IfErr, IfSome}
use Rattle.std.proofs.Common.{length, get_or, take, drop, refl, sym, ap, subst, append_assoc}
use Rattle.std.specs.Borrow.{Bor}
use Rattle.std.specs.List.{AllZip, flat_map}
use Rattle.std.proofs.lemmas.Grind.{flat_map-append}
use Rattle.std.proofs.lemmas.List.{take_more, take-append-drop, append-nil}
use Rattle.text_items.specs.declared.fault.TextFault.{TextFault}
use Rattle.text_items.specs.declared.fault.TextFault.TheVariants as bad
use Rattle.text_items.specs.Reading.{◌>>=◌, Fails}
use Rattle.evidence_core.specs.declared.blocks.Block.{Block}
use Rattle.number_text.specs.Blocks.{blocks_of}
use Rattle.seek_core.specs.Given.{more_blocks}
use Rattle.seek_parts.specs.Parts.{Told}
use Rattle.seek_call.specs.declared.failure.Failure.{Failure}
use Rattle.seek_call.specs.declared.failure.Failure.TheVariants as failure
use Rattle.seek_call.specs.Blocks.{AreBlocksIn, AreBlocksOf, AddsBlocksOf, IsBlocksFault, HasNoBlocks, IsBlocksFailure}

abbrev put_behind : List Block → Result (List Block) TextFault → Result (List Block) TextFault
put_behind old read = do
  more ← read
  Ok (old ++ more)

-- the blocks of a text behind others are those of a file
given : (told : Told) (path : Bor (List ℕ)) (old new : List Block) (text : List ℕ) → IfSome (told path.now) (λ bytes. text ≡ bytes)
    → more_blocks old text ≡ Ok new → AddsBlocksOf told path old new
given told path old new text is more = by (blocks_of text) refl more
  where
    by : (read : Result (List Block) TextFault) → blocks_of text ≡ read → put_behind old read ≡ Ok new → AddsBlocksOf told path old new
    by (Ok list) read all = record { list = list; is = record { text = text; is = is; read = read }; behind = cc }
    by (Err fault) read all = cc

-- a text of blocks whose first bad line is one of the text alone
fails : (old : List Block) (text : List ℕ) (f : TextFault) → Fails f (more_blocks old text) → Fails f (blocks_of text)
fails old text bad.OutOfMemory is = tt
fails old text (bad.Malformed line) is = by (blocks_of text) refl is
  where
    by : (read : Result (List Block) TextFault) → blocks_of text ≡ read → put_behind old read ≡ Err (bad.Malformed line)
        → blocks_of text ≡ Err (bad.Malformed line)
    by (Ok list) read all = cc
    by (Err fault) read all = cc
fails old text (bad.Limit line) is = by (blocks_of text) refl is
  where
    by : (read : Result (List Block) TextFault) → blocks_of text ≡ read → put_behind old read ≡ Err (bad.Limit line)
        → blocks_of text ≡ Err (bad.Limit line)
    by (Ok list) read all = cc
    by (Err fault) read all = cc

-- the same of what is told of its file
fails_as_told : (told : Option (List ℕ)) (old : List Block) (text : List ℕ) (f : TextFault) → IfSome told (λ bytes. text ≡ bytes)
    → Fails f (more_blocks old text) → IfSome told (λ bytes. Fails f (blocks_of bytes))
fails_as_told None old text f is bad = tt
fails_as_told (Some bytes) old text f is bad = subst (λ (b : List ℕ). Fails f (blocks_of b)) is (fails old text f bad)

-- a file whose text of blocks can't be read
unread : (told : Told) (path : Bor (List ℕ)) (old : List Block) (text : List ℕ) (f : Failure) → IfSome (told path.now) (λ bytes. text ≡ bytes)
    → IsBlocksFault (more_blocks old text) f → HasNoBlocks told path f
unread told path old text (failure.Part fault) is bad = absurd bad
unread told path old text (failure.Blocks name fault) is bad = fails_as_told (told path.now) old text fault is bad
unread told path old text (failure.ReadAndWritten name) is bad = absurd bad
unread told path old text (failure.Write name error) is bad = absurd bad
unread told path old text failure.OutOfMemory is bad = absurd bad

-- what a text of blocks comes to, as the text of its file
pub given_as_told : (told : Told) (path : Bor (List ℕ)) (old : List Block) (text : List ℕ) (r : Result (List Block) Failure)
    → IfSome (told path.now) (λ bytes. text ≡ bytes) → IfOk r (λ more. more_blocks old text ≡ Ok more) → IfErr r (λ f. IsBlocksFault (more_blocks old text) f)
    → IfOk r (λ more. AddsBlocksOf told path old more) × IfErr r (λ f. HasNoBlocks told path f)
given_as_told told path old text (Ok more) is all bad = (given told path old more text is all, tt)
given_as_told told path old text (Err f) is all bad = (tt, unread told path old text f is bad)

one_more : (told : Told) (paths : List (Bor (List ℕ))) (lists : List (List Block)) (path : Bor (List ℕ)) (list : List Block)
    → AllZip (AreBlocksIn told) paths lists → AreBlocksIn told path list → AllZip (AreBlocksIn told) (paths ++ path ∷ []) (lists ++ list ∷ [])
one_more told [] [] path list are is = (is, tt)
one_more told [] (y ∷ lists) path list are is = absurd are
one_more told (x ∷ paths) [] path list are is = absurd are
one_more told (x ∷ paths) (y ∷ lists) path list are is = (are.0, one_more told paths lists path list are.1 is)

flat_more : (lists : List (List Block)) (list : List Block)
    → flat_map (λ (l : List Block). l) (lists ++ list ∷ []) ≡ flat_map (λ (l : List Block). l) lists ++ list
flat_more lists list =
    flat_map-append (λ (l : List Block). l) lists (list ∷ []) ∙ ap (λ last. flat_map (λ (l : List Block). l) lists ++ last) (append-nil list)

added : (told : Told) (paths : List (Bor (List ℕ))) (path : Bor (List ℕ)) (old new : List Block)
    → AreBlocksOf told paths old → AddsBlocksOf told path old new → AreBlocksOf told (paths ++ path ∷ []) new
added told paths path old new are adds = record {
  lists = are.lists ++ adds.list ∷ [];
  each = one_more told paths are.lists path adds.list are.each adds.is;
  all = adds.behind ∙ ap (λ front. front ++ adds.list) are.all ∙ sym (flat_more are.lists adds.list);
}

-- the blocks of a file more, of the files that a loop sees
pub file_added : (told : Told) (paths seen : List (Bor (List ℕ))) (i : ℕ) (d : Bor (List ℕ)) (old new : List Block) → seen ≡ paths
    → i < length seen → AreBlocksOf told (take i paths) old → AddsBlocksOf told (get_or seen i d) old new → AreBlocksOf told (take (i + 1) paths) new
file_added told paths seen i d old new same lt are adds =
    let within = subst (λ (ps : List (Bor (List ℕ))). i < length ps) same lt in
    let path = subst (λ (ps : List (Bor (List ℕ))). AddsBlocksOf told (get_or ps i d) old new) same adds in
    subst (λ ps. AreBlocksOf told ps new) (sym (take_more paths i d within)) (added told (take i paths) (get_or paths i d) old new are path)

-- what stands before a file, and what behind it
parted : (paths : List (Bor (List ℕ))) (i : ℕ) (d : Bor (List ℕ)) → i < length paths
    → paths ≡ take i paths ++ get_or paths i d ∷ drop (i + 1) paths
parted paths i d lt =
    sym (take-append-drop (i + 1) paths) ∙ ap (λ (front : List (Bor (List ℕ))). front ++ drop (i + 1) paths) (take_more paths i d lt)
    ∙ append_assoc (take i paths) (get_or paths i d ∷ []) (drop (i + 1) paths)

-- a file that can't be had, of those that a loop sees
pub file_failed : (told : Told) (paths seen : List (Bor (List ℕ))) (i : ℕ) (d : Bor (List ℕ)) (old : List Block) (f : Failure) → seen ≡ paths
    → i < length seen → AreBlocksOf told (take i paths) old → HasNoBlocks told (get_or seen i d) f → IsBlocksFailure told paths f
file_failed told paths seen i d old f same lt are is = record {
  front = take i paths;
  path = get_or paths i d;
  back = drop (i + 1) paths;
  split = parted paths i d (subst (λ (ps : List (Bor (List ℕ))). i < length ps) same lt);
  blocks = old;
  had = are;
  is = subst (λ (ps : List (Bor (List ℕ))). HasNoBlocks told (get_or ps i d) f) same is;
}
