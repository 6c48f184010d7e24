-- The parties and sessions at the start, one after another.
use Rattle.std.proofs.Common.{◌≡◌, ℕ, zero, suc, ◌+◌, List, [], ◌∷◌, ◌++◌, map, length, take, slice_get, Some, refl, ap, sym, ◌∙◌, arith}
use Rattle.std.proofs.lemmas.List.{map-append}
use Rattle.sj_lang.specs.FileAt.{FileAt, PartyAt, ProtocolAt, ConnectAt, body_named, end_of_party, ends_from}
use Rattle.sj_semantics.specs.declared.Opened.{Opened}
use Rattle.sj_semantics.specs.Ends.{Session}
use Rattle.sj_semantics.specs.Program.{Program}
use Rattle.sj_semantics.specs.Requests.{no_requests}
use Rattle.sj_semantics.specs.World.{fresh, program_of, programs_from, session_of, start_of}
use Rattle.sj_semantics.specs.Run.{IsRun, after_acts}
use Rattle.sj_table.specs.declared.table.Table.{Table}
use Rattle.sj_plain.specs.declared.course.Course.{Course}
use Rattle.sj_plain.specs.Course.{acts_in, file_in, world_in}
use Rattle.sj_plain.specs.Ends.{StartsAt, connected_session}
use Rattle.sj_plain.specs.SharedFile.{without_words}
use Rattle.sj_plain.specs.Opened.{requests_in, world_with}

ends_same : (file : FileAt) (p n : ℕ) (cs : List ConnectAt) → ends_from (without_words file) p n cs ≡ ends_from file p n cs
ends_same file p n [] = refl
ends_same file p n (c ∷ cs) =
    ap (λ t. end_of_party file p c.first (record { sess = n; side = 0 }) ++ end_of_party file p c.second (record { sess = n; side = 1 }) ++ t) (ends_same file p (n + 1) cs)

programs_same : (file : FileAt) (p : ℕ) (qs : List PartyAt) → programs_from (without_words file) p qs ≡ programs_from file p qs
programs_same file p [] = refl
programs_same file p (q ∷ qs) = λ i. record (program_of file p q) { ends = ends_same file p 0 file.connects i } ∷ programs_same file (p + 1) qs i

-- the start needs no words
pub start_same : (file : FileAt) → start_of (without_words file) ≡ start_of file
start_same file = λ i. record { protocols = file.protocols; parties = programs_same file 0 file.parties i; sessions = map (session_of file) file.connects; requests = no_requests }

length-programs : (file : FileAt) (p : ℕ) (qs : List PartyAt) → length (programs_from file p qs) ≡ length qs
length-programs file p [] = refl
length-programs file p (q ∷ qs) = ap suc (length-programs file (p + 1) qs)

-- as many programs as parties
pub length-start : (file : FileAt) → length (start_of file).parties ≡ length file.parties
length-start file = length-programs file 0 file.parties

take_suc : {X : Type 0} (xs : List X) (i : ℕ) (x : X) → slice_get xs i ≡ Some x → take (suc i) xs ≡ take i xs ++ x ∷ []
take_suc [] i x h = cc
take_suc (a ∷ xs) zero x h = let it : a ≡ x = cc in ap (λ t. t ∷ []) it
take_suc (a ∷ xs) (suc i) x h = ap (λ t. a ∷ t) (take_suc xs i x h)

pub take_next : {X : Type 0} (xs : List X) (i : ℕ) (x : X) → slice_get xs i ≡ Some x → take (i + 1) xs ≡ take i xs ++ x ∷ []
take_next xs i x h = ap (λ n. take n xs) (let e : i + 1 ≡ suc i = omega arith in e) ∙ take_suc xs i x h

-- one more element that is seen as the next of a list
pub seen_next : {X Y : Type 0} (view : X → Y) (ys : List Y) (out : List X) (i : ℕ) (x : X) → slice_get ys i ≡ Some (view x) → map view out ≡ take i ys → map view (out ++ x ∷ []) ≡ take (i + 1) ys
seen_next view ys out i x h so_far = map-append view out (x ∷ []) ∙ ap (λ t. t ++ view x ∷ []) so_far ∙ sym (take_next ys i (view x) h)

-- no act has led from the start to anywhere else
pub begins : (file : FileAt) (c : Course) → file_in c ≡ without_words file → acts_in c ≡ [] → world_in c ≡ start_of file → IsRun (file_in c) (acts_in c) (world_in c)
begins file c kept acts world = ap (after_acts (start_of (file_in c))) acts ∙ ap (λ f. Some (start_of f)) kept ∙ ap Some (start_same file) ∙ ap Some (sym world)

-- where a table starts at a file's protocols its connections make the file's sessions
connected_alike : (file : FileAt) (t : Table) → StartsAt t file.protocols → (cs : List ConnectAt) → map (connected_session t) cs ≡ map (session_of file) cs
connected_alike file t starts cs = λ i. map (λ (c : ConnectAt). record { first = fresh (starts c.first.protocol i); second = fresh (starts c.second.protocol i) }) cs

-- the parts of the start of a file
pub world_starts : (file : FileAt) (t : Table) (ps : List ProtocolAt) (gs : List Program) (zs : List Session) (os : List Opened)
    → ps ≡ file.protocols → StartsAt t ps → gs ≡ (start_of file).parties → zs ≡ map (connected_session t) file.connects → os ≡ [] → world_with ps gs zs os ≡ start_of file
world_starts file t ps gs zs os protocols starts parties sessions opened =
    let alike = sessions ∙ connected_alike file t (λ p. starts p ∙ ap (λ qs. body_named qs p) protocols) file.connects in
    λ i. record { protocols = protocols i; parties = parties i; sessions = alike i; requests = λ q. requests_in (opened i) q }
