mod Translating
