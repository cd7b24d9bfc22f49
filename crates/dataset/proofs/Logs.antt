-- Which logs are sound in another ground.
use Rattle.std.proofs.Common.{◌≡◌, ℕ, List, [], Option, None, refl, sym, ◌∙◌, subst, arith}
use Rattle.places.specs.All.{Names, Ground, file_at}
use Rattle.annex_keys.specs.All.{IsKey, PlainKey}
use Rattle.location_log.specs.All.{IsPresent, PlainLine}
use Rattle.repository.specs.All.{repo_of, settings_place}
use Rattle.annex_store.specs.All.{IsLogIn, Stands, content_place, log_place}
use Rattle.dataset.specs.Sound.{HasSoundLogs, HasUuid}

-- the same file has the content
pub stands_as : (repo : Names) (key : PlainKey) (a b : Ground) → file_at b (content_place repo key) ≡ file_at a (content_place repo key) → Stands repo key a → Stands repo key b
stands_as repo key a b same stood = record { bytes = stood.bytes; stands = same ∙ stood.stands; matching = stood.matching }

module _ (root : Names) (a b : Ground) (settings : file_at b (settings_place root) ≡ file_at a (settings_place root)) where
  pub uuid_before : (uuid : List ℕ) → HasUuid root uuid b → HasUuid root uuid a
  uuid_before uuid own = record { text = own.text; config = own.config; stands = sym settings ∙ own.stands; read = own.read; own = own.own }

  -- the same logs are sound where no content is lost
  pub logs_as : ((key : PlainKey) → file_at b (log_place (repo_of root) key) ≡ file_at a (log_place (repo_of root) key))
      → ((key : PlainKey) → IsKey key → Stands (repo_of root) key a → Stands (repo_of root) key b) → HasSoundLogs root a → HasSoundLogs root b
  logs_as same stays sound = record {
    formed = λ key is.
        let found = sound.formed key is in
        (found.0, subst (λ (o : Option (List ℕ)). IsLogIn o found.0) (sym (same key)) found.1);
    honest = λ key uuid is own lines log present.
        stays key is (sound.honest key uuid is (uuid_before uuid own) lines (subst (λ (o : Option (List ℕ)). IsLogIn o lines) (same key) log) present);
  }

none_present : (uuid : List ℕ) → IsPresent [] uuid → ⊥
none_present uuid present = let below = present.counts.within.1 in absurd (omega (arith, below))

-- where no log stands, none is unsound
pub no_logs : (root : Names) (g : Ground) → ((key : PlainKey) → file_at g (log_place (repo_of root) key) ≡ None) → HasSoundLogs root g
no_logs root g none = record {
  formed = λ key is. ([], subst (λ (o : Option (List ℕ)). IsLogIn o []) (sym (none key)) refl);
  honest = λ key uuid is own lines log present.
      let empty : lines ≡ [] = subst (λ (o : Option (List ℕ)). IsLogIn o lines) (none key) log in
      absurd (none_present uuid (subst (λ (ls : List PlainLine). IsPresent ls uuid) empty present));
}
