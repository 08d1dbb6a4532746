mod CheckLemmas
mod OutputLemmas
mod ReportLemmas
mod RunLemmas
