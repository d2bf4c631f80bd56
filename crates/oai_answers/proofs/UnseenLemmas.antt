-- Documents that are equal byte for byte, computed.
use Rattle.std.proofs.Common.{◌≡◌, inr, refl}
use Rattle.oai_item.specs.Item.{record_named}
use Rattle.oai_item.specs.Rules.{is_allowed, is_element_name, is_uri}
use Rattle.oai_item.specs.ShortTexts.{is_short_text}
use Rattle.oai_names.specs.Characters.{is_xml_text}
use Rattle.std.specs.Str as str
use Rattle.oai_answers.specs.Documents.{behind_header, document, fields_metadata, request_element, get_record_element, header_element, metadata, record_content, record_element, declared_metadata, declared_start, schema_location}
use Rattle.oai_answers.specs.Seen.{IsRegular}
use Rattle.oai_answers.specs.Unseen.{issue_by_prefix, issue_in_both, issue_of_day, plain_issue}
use Rattle.oai_time.specs.TimeTexts.{day_text}

pub regular_issue : IsRegular plain_issue.answer
unfolding is_allowed is_element_name is_uri is_short_text is_xml_text record_named str.chars
regular_issue = (inr refl, refl)

pub regular_by_prefix : IsRegular issue_by_prefix.answer
unfolding is_allowed is_element_name is_uri is_short_text is_xml_text record_named str.chars
regular_by_prefix = (inr refl, refl)

pub regular_of_day : IsRegular issue_of_day.answer
unfolding is_allowed is_element_name is_uri is_short_text is_xml_text record_named str.chars
regular_of_day = (inr refl, refl)

pub regular_in_both : IsRegular issue_in_both.answer
unfolding is_allowed is_element_name is_uri is_short_text is_xml_text record_named str.chars
regular_in_both = (inr refl, refl)

pub same_by_prefix : document issue_by_prefix ≡ document plain_issue
unfolding document request_element get_record_element record_element behind_header record_content metadata fields_metadata record_named declared_metadata declared_start schema_location header_element
same_by_prefix = refl

pub same_of_day : document issue_of_day ≡ document plain_issue
unfolding document request_element get_record_element record_element header_element behind_header day_text
same_of_day = refl

pub same_in_both : document issue_in_both ≡ document plain_issue
unfolding document request_element get_record_element record_element header_element behind_header record_content metadata fields_metadata record_named
same_in_both = refl
